-- A table of comments by the book: what may not stand in one, where number 5 is then, and 4 or 5 by the earlier token.
-- The readings C1 to C5, each with the smallest text that tells it from another.
use mathlib.Core.Path.{◌≡◌, refl}
use mathlib.Core.List.{List, [], ◌∷◌, map}
use Rattle.paper.specs.Base.{codes}
use Rattle.paper.proofs.Table.{Case, lent, result, ◌gives◌, expected, operation, computed, old, zeros, hex}

abbrev pub cases : List Case
cases =
    -- C1: in a comment never closed, 4 at its `$(`
    (lent (codes "$( x$)") (old 48) [] []
    gives result 4 0 0 0 [] [] (zeros 48)) ∷
    -- in one that is closed, 5 at the token, not at the two bytes
    (lent (codes "$( x$) $)") (old 64) [] []
    gives result 5 3 0 0 [] [] (zeros 64)) ∷
    -- a comment that is closed before one that is not
    (lent (codes "$( x$) $) $(") (old 80) [] []
    gives result 5 3 0 0 [] [] (zeros 80)) ∷
    (lent (codes "$( $) $( x$)") (old 80) [] []
    gives result 4 6 0 0 [] [] (zeros 80)) ∷
    -- the first such token of a comment
    (lent (codes "$( x$) y$( $)") (old 80) [] []
    gives result 5 3 0 0 [] [] (zeros 80)) ∷
    -- C2: the whole token `$(` too, and the two bytes anywhere in a token
    (lent (codes "$( $( $)") (old 64) [] []
    gives result 5 3 0 0 [] [] (zeros 64)) ∷
    (lent (codes "$( $$) $)") (old 64) [] []
    gives result 5 3 0 0 [] [] (zeros 64)) ∷
    (lent (codes "$( $)x $)") (old 64) [] []
    gives result 5 3 0 0 [] [] (zeros 64)) ∷
    -- two tokens `$` and `)` are no such token
    (lent (codes "$( $ ) $)") (old 80) [] []
    gives result 0 0 0 0 [] [] (zeros 80)) ∷
    -- C3: outside comments `$(x` is 5 at its own offset, as it was
    (lent (codes "$(x") (old 32) [] []
    gives result 5 0 0 0 [] [] (zeros 32)) ∷
    -- C4: with the 5 of the grammar, the earlier one; 6 only without either
    (lent (codes "$} $( $( $)") (old 80) [] []
    gives result 5 0 0 0 [] [] (zeros 80)) ∷
    (lent (codes "$( x$) $) $}") (old 80) [] []
    gives result 5 3 0 0 [] [] (zeros 80)) ∷
    (lent (codes "${ $( x$) $)") (old 80) [] []
    gives result 5 6 0 0 [] [] (zeros 80)) ∷
    -- C5: N counts the tokens of comments
    (lent (codes "$( x$) $)") (old 63) [] []
    gives result 2 64 0 0 [] [] (zeros 63)) ∷
    []

pub marked_cases : map computed cases ≡ map expected cases
unfolding operation hex
marked_cases = refl
