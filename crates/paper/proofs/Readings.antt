-- A third table: the places of document 01 that can be read in two ways, each with the smallest text that tells them
-- apart. Failed `$f`, kinds 1, 7, 12 and 13, 4,096 variables and look-up stand in the other tables.
use mathlib.Core.Path.{◌≡◌, refl}
use mathlib.Core.List.{List, [], ◌∷◌, map}
use Rattle.paper.specs.Base.{codes}
use Rattle.paper.proofs.Table.{Case, lent, result, ◌gives◌, expected, operation, computed, old, zeros, hex}

abbrev pub cases : List Case
cases =
    -- tokens of comments count in N, `$(` and `$)` too: 3 × 16 words
    (lent (codes "$( $)") (old 47) [] []
    gives result 2 48 0 0 [] [] (zeros 47)) ∷
    -- a bad byte is part of a token: 2 × 16 words
    (lent (128 ∷ []) (old 31) [] []
    gives result 2 32 0 0 [] [] (zeros 31)) ∷
    -- a label begins its statement: 6
    (lent (codes "a") (old 32) [] []
    gives result 6 1 0 0 [] [] (zeros 32)) ∷
    -- a token that is neither label nor keyword where a statement starts: 5 at its own offset
    (lent (codes "(") (old 32) [] []
    gives result 5 0 0 0 [] [] (zeros 32)) ∷
    -- a label before `$c`: 5 at the keyword
    (lent (codes "a $c") (old 48) [] []
    gives result 5 2 0 0 [] [] (zeros 48)) ∷
    -- the third math token of a `$f`: 5 there
    (lent (codes "a $f b c d") (old 96) [] []
    gives result 5 9 0 0 [] [] (zeros 96)) ∷
    -- a comment open at the end of an unfinished statement: 4
    (lent (codes "$c $(") (old 48) [] []
    gives result 4 3 0 0 [] [] (zeros 48)) ∷
    -- the place of 6 is the text length, white space at the end counted
    (lent (codes "a ") (old 32) [] []
    gives result 6 2 0 0 [] [] (zeros 32)) ∷
    -- an empty proof: 5 at its `$.`
    (lent (codes "a $p c $= $.") (old 96) [] []
    gives result 5 10 0 0 [] [] (zeros 96)) ∷
    -- while its global `$v` stands later, the nested one counts
    (lent (codes "${ $v x y $. $d x y $. $} $v x $.") (old 224) [] []
    gives result 0 0 0 0 [] [] (zeros 224)) ∷
    -- kind 12 is for the global declaration alone, here a `$v`: so only the later `$c` gets kind 6
    (lent (codes "${ $v x $. $} $v x $. $c x $.") (old 192) [] (old 18)
    gives result 0 0 0 18 [] (hex ("0E000000 0600 16000000 00000000 11000000" ∷ [])) (zeros 192)) ∷
    -- kind 11 names the accepted active `$f`, not the one that got kind 11 itself
    (lent (codes "$c c $. $v x $. f $f c x $. g $f c x $. h $f c x $.") (old 352) (old 29) (old 36)
    gives result 0 0 29 36
    (hex ("19000000 0400 10000000 FFFFFFFF 01000000 66 01000000 63 01000000 78" ∷ []))
    (hex
    ("0E000000 0B00 1C000000 00000000 10000000"
    ∷ "0E000000 0B00 28000000 00000000 10000000"
    ∷ []))
    (zeros 352)) ∷
    -- kind 5 also where the bearer of the label is rejected
    (lent (codes "$c x $. x $a y $.") (old 128) [] (old 36)
    gives result 0 0 0 36
    []
    (hex
    ("0E000000 0500 00000000 00000000 08000000"
    ∷ "0E000000 0200 08000000 00000000 00000000"
    ∷ []))
    (zeros 128)) ∷
    -- a nested `$c` gives kind 13 and no kind 5, and declares nothing
    (lent (codes "${ $c y $. $} y $e y $.") (old 160) [] (old 36)
    gives result 0 0 0 36
    []
    (hex
    ("0E000000 0D00 03000000 00000000 00000000"
    ∷ "0E000000 0200 0E000000 00000000 00000000"
    ∷ []))
    (zeros 160)) ∷
    -- a nested `$v` token with kind 5 is recorded
    (lent (codes "${ $v x $. x $e y $. $d x x $. $}") (old 224) [] (old 54)
    gives result 0 0 0 54
    []
    (hex
    ("0E000000 0500 03000000 00000000 0B000000"
    ∷ "0E000000 0200 0B000000 00000000 00000000"
    ∷ "0E000000 0800 15000000 01000000 00000000"
    ∷ []))
    (zeros 224)) ∷
    -- a nested `$v` token repeated in the same `$v`: kind 6
    (lent (codes "${ $v x x $. $}") (old 112) [] (old 18)
    gives result 0 0 0 18 [] (hex ("0E000000 0600 03000000 01000000 06000000" ∷ [])) (zeros 112)) ∷
    -- the constants of the `$e` stand in the pool before those of the assertion
    (lent (codes "$c a b $. e $e a a $. c $a a b $.") (old 240) (old 73) []
    gives result 0 0 73 0
    (hex
    ("45000000 0200 16000000 01000000 63 0000 0000 02000000 E1E2 01000000 0200 0A000000 01000000 61"
    ∷ "00000000 00000000 01000000 01000000 61 00000000 01000000 02000000 00000000"
    ∷ []))
    []
    (zeros 240)) ∷
    -- an empty prefix or rump has the place in the pool reached so far
    (lent (codes "$c c $. $v x $. f $f c x $. a $a c c x x $.") (old 304) (old 117) []
    gives result 0 0 117 0
    (hex
    ("19000000 0400 10000000 FFFFFFFF 01000000 66 01000000 63 01000000 78"
    ∷ "54000000 0200 1C000000 01000000 61 0100 0100 01000000 78 01000000 E3 01000000 0100 10000000 0000"
    ∷ "01000000 63 01000000 63 02000000 00000000 01000000 0000 01000000 01000000 0000 01000000 01000000"
    ∷ "00000000 00"
    ∷ []))
    []
    (zeros 304)) ∷
    -- an optional variable needs no `$f`: V is 2, M is 0
    (lent (codes "$c c $. $v x y $. $d x y $. a $a c $.") (old 256) (old 60) []
    gives result 0 0 60 0
    (hex
    ("38000000 0200 1C000000 01000000 61 0200 0000 01000000 78 01000000 79 00000000 00000000 01000000 63"
    ∷ "00000000 00000000 00000000 00000000 02 01"
    ∷ []))
    []
    (zeros 256)) ∷
    -- token 1 of a `$f` is looked at even if token 0 failed
    (lent (codes "a $f b c $.") (old 96) [] (old 36)
    gives result 0 0 0 36
    []
    (hex
    ("0E000000 0200 00000000 00000000 00000000"
    ∷ "0E000000 0200 00000000 01000000 00000000"
    ∷ []))
    (zeros 96)) ∷
    -- an outermost `$e` is active at every later assertion
    (lent (codes "$c c $. e $e c $. a $a c $.") (old 192) (old 71) []
    gives result 0 0 71 0
    (hex
    ("43000000 0200 12000000 01000000 61 0000 0000 00000000 01000000 0200 08000000 01000000 63 00000000"
    ∷ "00000000 00000000 01000000 63 00000000 00000000 00000000 00000000"
    ∷ []))
    []
    (zeros 192)) ∷
    []

pub readings : map computed cases ≡ map expected cases
unfolding operation hex
readings = refl
