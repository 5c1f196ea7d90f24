-- Texts on the bench: the starred texts of document 01 as one table, proved by one statement.
-- Every buffer is named; those that document 01 leaves open are longer than what is written.
use mathlib.Core.Path.{◌≡◌, refl}
use mathlib.Core.List.{List, [], ◌∷◌, ◌++◌, map}
use Rattle.paper.specs.Base.{codes}
use Rattle.paper.proofs.Table.{Case, lent, result, ◌gives◌, expected, operation, computed, old, zeros, hex}

abbrev pub cases : List Case
cases =
    -- empty text, answer 0
    (lent [] (old 16) (old 4) (old 4)
    gives result 0 0 0 0 (old 4) (old 4) (zeros 16)) ∷
    -- the whole case
    (lent (codes "$c ( ) wff $. $v x $. wx $f wff x $. ax $a wff ( x ) $.") (old 336) (old 120) (old 4)
    gives result 0 0 116 0
    (hex
    ("1C000000 0400 16000000 FFFFFFFF 02000000 7778 03000000 776666 01000000 78"
    ∷ "50000000 0200 25000000 02000000 6178 0100 0100 01000000 78 02000000 A8A9 01000000 0100 16000000 0000"
    ∷ "03000000 776666 03000000 776666 01000000 00000000 01000000 0000 01000000 02000000 00000000 00"
    ∷ []) ++ old 4)
    (old 4)
    (zeros 336)) ∷
    -- declared as a constant, then as a variable
    (lent (codes "$c x $. $v x $.") (old 112) (old 4) (old 20)
    gives result 0 0 0 18 (old 4) (hex ("0E000000 0600 08000000 00000000 03000000" ∷ []) ++ old 2) (zeros 112)) ∷
    -- number 5 at 0
    (lent (codes "$}") (old 32) (old 4) (old 4)
    gives result 5 0 0 0 (old 4) (old 4) (zeros 32)) ∷
    -- number 6 at 2
    (lent (codes "${") (old 32) (old 4) (old 4)
    gives result 6 2 0 0 (old 4) (old 4) (zeros 32)) ∷
    -- number 4 at 0
    (lent (codes "$(") (old 32) (old 4) (old 4)
    gives result 4 0 0 0 (old 4) (old 4) (zeros 32)) ∷
    -- byte 128, number 3 at 0
    (lent (128 ∷ []) (old 32) (old 4) (old 4)
    gives result 3 0 0 0 (old 4) (old 4) (zeros 32)) ∷
    -- number 5 at 3
    (lent (codes "$c $.") (old 48) (old 4) (old 4)
    gives result 5 3 0 0 (old 4) (old 4) (zeros 48)) ∷
    -- kind 2 twice
    (lent (codes "${ $v x $. $} $d x x $.") (old 160) (old 4) (old 40)
    gives result 0 0 0 36
    (old 4)
    (hex
    ("0E000000 0200 0E000000 00000000 00000000"
    ∷ "0E000000 0200 0E000000 01000000 00000000"
    ∷ []) ++ old 4)
    (zeros 160)) ∷
    -- the whole case with 335 words, number 2, place 336
    (lent (codes "$c ( ) wff $. $v x $. wx $f wff x $. ax $a wff ( x ) $.") (old 335) (old 120) (old 4)
    gives result 2 336 0 0 (old 120) (old 4) (zeros 335)) ∷
    -- the whole case with 115 frame bytes, number 8, place 116
    (lent (codes "$c ( ) wff $. $v x $. wx $f wff x $. ax $a wff ( x ) $.") (old 336) (old 115) (old 4)
    gives result 8 116 0 0 (old 115) (old 4) (zeros 336)) ∷
    []

pub bench : map computed cases ≡ map expected cases
unfolding operation hex
bench = refl
