-- A second table: slips to catch, where Rust and book part, and the diagnostics that the starred texts do not show.
-- Every buffer is just long enough, but where a refusal is shown.
use mathlib.Core.Path.{◌≡◌, refl}
use mathlib.Core.List.{List, [], ◌∷◌, map}
use Rattle.paper.specs.Base.{codes}
use Rattle.paper.proofs.Table.{Case, lent, result, ◌gives◌, expected, operation, computed, old, zeros, hex}

abbrev pub cases : List Case
cases =
    -- ---- Slips to catch
    -- a pair in the orientation of its first discovery: (1,0), and bits both ways
    (lent (codes "$c c $. $v x y $. f $f c x $. g $f c y $. $d y x $. a $a c x y $.") (old 448) (old 168) []
    gives result 0 0 168 0
    (hex
    ("19000000 0400 12000000 FFFFFFFF 01000000 66 01000000 63 01000000 78"
    ∷ "19000000 0400 1E000000 FFFFFFFF 01000000 67 01000000 63 01000000 79"
    ∷ "6A000000 0200 34000000 01000000 61 0200 0200 01000000 78 01000000 79 00000000 02000000 0100 12000000"
    ∷ "0000 01000000 63 0100 1E000000 0100 01000000 63 01000000 63 02000000 00000000 00000000 0000 00000000"
    ∷ "00000000 0100 00000000 00000000 01000000 0100 0000 02 01"
    ∷ []))
    []
    (zeros 448)) ∷
    -- named by three `$d` in both orders: listed once, as (0,1)
    (lent (codes "$c c $. $v x y $. f $f c x $. g $f c y $. $d x y $. $d y x $. $d x y $. a $a c x y $.") (old 576) (old 168) []
    gives result 0 0 168 0
    (hex
    ("19000000 0400 12000000 FFFFFFFF 01000000 66 01000000 63 01000000 78"
    ∷ "19000000 0400 1E000000 FFFFFFFF 01000000 67 01000000 63 01000000 79"
    ∷ "6A000000 0200 48000000 01000000 61 0200 0200 01000000 78 01000000 79 00000000 02000000 0100 12000000"
    ∷ "0000 01000000 63 0100 1E000000 0100 01000000 63 01000000 63 02000000 00000000 00000000 0000 00000000"
    ∷ "00000000 0100 00000000 00000000 01000000 0000 0100 02 01"
    ∷ []))
    []
    (zeros 576)) ∷
    -- the optional part of a `$d`: V is 2, M is 1, and there is no pair
    (lent (codes "$c c $. $v x y $. f $f c x $. $d x y $. a $a c x $.") (old 352) (old 112) []
    gives result 0 0 112 0
    (hex
    ("19000000 0400 12000000 FFFFFFFF 01000000 66 01000000 63 01000000 78"
    ∷ "4F000000 0200 28000000 01000000 61 0200 0100 01000000 78 01000000 79 00000000 01000000 0100 12000000"
    ∷ "0000 01000000 63 01000000 63 01000000 00000000 00000000 0000 00000000 00000000 00000000 02 01"
    ∷ []))
    []
    (zeros 352)) ∷
    -- labels are compared byte for byte: 00417, 0417 and 417 are three
    (lent (codes "$c c $. 00417 $a c $. 0417 $a c $. 417 $a c $.") (old 256) (old 153) []
    gives result 0 0 153 0
    (hex
    ("30000000 0200 08000000 05000000 3030343137 0000 0000 00000000 00000000 01000000 63 00000000 00000000"
    ∷ "00000000 00000000"
    ∷ "2F000000 0200 16000000 04000000 30343137 0000 0000 00000000 00000000 01000000 63 00000000 00000000"
    ∷ "00000000 00000000"
    ∷ "2E000000 0200 23000000 03000000 343137 0000 0000 00000000 00000000 01000000 63 00000000 00000000"
    ∷ "00000000 00000000"
    ∷ []))
    []
    (zeros 256)) ∷
    -- hypotheses by offset: here the essential stands first
    (lent (codes "$c c $. $v x $. e $e c $. f $f c x $. a $a c x $.") (old 336) (old 129) []
    gives result 0 0 129 0
    (hex
    ("19000000 0400 1A000000 FFFFFFFF 01000000 66 01000000 63 01000000 78"
    ∷ "60000000 0200 26000000 01000000 61 0100 0100 01000000 78 00000000 02000000 0200 10000000 01000000 63"
    ∷ "00000000 00000000 00000000 0100 1A000000 0000 01000000 63 01000000 63 01000000 00000000 00000000"
    ∷ "0000 00000000 00000000 00000000 00"
    ∷ []))
    []
    (zeros 336)) ∷
    -- and here the float
    (lent (codes "$c c $. $v x $. f $f c x $. e $e c x $. a $p c x $= ? $.") (old 384) (old 139) []
    gives result 0 0 139 0
    (hex
    ("19000000 0400 10000000 FFFFFFFF 01000000 66 01000000 63 01000000 78"
    ∷ "6A000000 0300 28000000 01000000 61 0100 0100 01000000 78 00000000 02000000 0100 10000000 0000"
    ∷ "01000000 63 0200 1C000000 01000000 63 01000000 00000000 00000000 0000 00000000 00000000 01000000 63"
    ∷ "01000000 00000000 00000000 0000 00000000 00000000 00000000 00"
    ∷ []))
    []
    (zeros 384)) ∷
    -- ---- Where Rust and book part
    -- D1: an outermost `$d` after the assertion is not seen, V is 0
    (lent (codes "$c c $. $v x y $. a $a c $. $d x y $.") (old 256) (old 48) []
    gives result 0 0 48 0
    (hex
    ("2C000000 0200 12000000 01000000 61 0000 0000 00000000 00000000 01000000 63 00000000 00000000"
    ∷ "00000000 00000000"
    ∷ []))
    []
    (zeros 256)) ∷
    -- D1: nor a nested one after it, nor one whose group is closed
    (lent (codes "$c c $. $v x y $. ${ $d x y $. $} ${ a $a c $. $d x y $. $}") (old 384) (old 48) []
    gives result 0 0 48 0
    (hex
    ("2C000000 0200 25000000 01000000 61 0000 0000 00000000 00000000 01000000 63 00000000 00000000"
    ∷ "00000000 00000000"
    ∷ []))
    []
    (zeros 384)) ∷
    -- D2: an outermost `$d` that failed enters no frame, V is 0
    (lent (codes "$c c $. $v x $. $d x x $. a $a c $.") (old 240) (old 48) (old 18)
    gives result 0 0 48 18
    (hex
    ("2C000000 0200 1A000000 01000000 61 0000 0000 00000000 00000000 01000000 63 00000000 00000000"
    ∷ "00000000 00000000"
    ∷ []))
    (hex ("0E000000 0800 10000000 01000000 00000000" ∷ []))
    (zeros 240)) ∷
    -- D3: an outermost `$f` that failed is none: the next one is the first, and has the frame
    (lent (codes "$c c $. $v x $. f $f d x $. g $f c x $.") (old 272) (old 29) (old 18)
    gives result 0 0 29 18
    (hex ("19000000 0400 1C000000 FFFFFFFF 01000000 67 01000000 63 01000000 78" ∷ []))
    (hex ("0E000000 0200 10000000 00000000 00000000" ∷ []))
    (zeros 272)) ∷
    -- D3: and the variable has no active `$f`, kind 4
    (lent (codes "$c c $. $v x $. f $f d x $. a $a c x $.") (old 272) [] (old 36)
    gives result 0 0 0 36
    []
    (hex
    ("0E000000 0200 10000000 00000000 00000000"
    ∷ "0E000000 0400 1C000000 01000000 00000000"
    ∷ []))
    (zeros 272)) ∷
    -- ---- the kinds that the starred texts do not show
    -- kind 1: the first bearer owns the label, even if its own check fails (kind 10)
    (lent (codes "$c c $. f $f c c $. f $e c $.") (old 208) [] (old 36)
    gives result 0 0 0 36
    []
    (hex
    ("0E000000 0A00 08000000 01000000 00000000"
    ∷ "0E000000 0100 14000000 00000000 08000000"
    ∷ []))
    (zeros 208)) ∷
    -- kind 3
    (lent (codes "$v x $. a $a x $.") (old 128) [] (old 18)
    gives result 0 0 0 18 [] (hex ("0E000000 0300 08000000 00000000 00000000" ∷ [])) (zeros 128)) ∷
    -- kind 4
    (lent (codes "$c c $. $v x $. a $a c x $.") (old 192) [] (old 18)
    gives result 0 0 0 18 [] (hex ("0E000000 0400 10000000 01000000 00000000" ∷ [])) (zeros 192)) ∷
    -- kind 5, then kind 6
    (lent (codes "$c c $. $v c $. c $a c $.") (old 176) (old 48) (old 54)
    gives result 0 0 48 54
    (hex
    ("2C000000 0200 10000000 01000000 63 0000 0000 00000000 00000000 01000000 63 00000000 00000000"
    ∷ "00000000 00000000"
    ∷ []))
    (hex
    ("0E000000 0500 00000000 00000000 10000000"
    ∷ "0E000000 0500 08000000 00000000 10000000"
    ∷ "0E000000 0600 08000000 00000000 03000000"
    ∷ []))
    (zeros 176)) ∷
    -- kind 7
    (lent (codes "$c c $. $d c c $.") (old 128) [] (old 36)
    gives result 0 0 0 36
    []
    (hex
    ("0E000000 0700 08000000 00000000 00000000"
    ∷ "0E000000 0700 08000000 01000000 00000000"
    ∷ []))
    (zeros 128)) ∷
    -- kind 8
    (lent (codes "$v x $. $d x x $.") (old 128) [] (old 18)
    gives result 0 0 0 18 [] (hex ("0E000000 0800 08000000 01000000 00000000" ∷ [])) (zeros 128)) ∷
    -- kind 9
    (lent (codes "$v x $. f $f x x $.") (old 144) [] (old 18)
    gives result 0 0 0 18 [] (hex ("0E000000 0900 08000000 00000000 00000000" ∷ [])) (zeros 144)) ∷
    -- kind 10
    (lent (codes "$c c $. f $f c c $.") (old 144) [] (old 18)
    gives result 0 0 0 18 [] (hex ("0E000000 0A00 08000000 01000000 00000000" ∷ [])) (zeros 144)) ∷
    -- kind 11
    (lent (codes "$c c $. $v x $. f $f c x $. g $f c x $.") (old 272) (old 29) (old 18)
    gives result 0 0 29 18
    (hex ("19000000 0400 10000000 FFFFFFFF 01000000 66 01000000 63 01000000 78" ∷ []))
    (hex ("0E000000 0B00 1C000000 00000000 10000000" ∷ []))
    (zeros 272)) ∷
    -- kind 12
    (lent (codes "${ $v x $. $} $c x $.") (old 144) [] (old 18)
    gives result 0 0 0 18 [] (hex ("0E000000 0C00 03000000 00000000 11000000" ∷ [])) (zeros 144)) ∷
    -- kind 13, once for each nested `$c`
    (lent (codes "${ $c x y $. $c z $. $}") (old 160) [] (old 36)
    gives result 0 0 0 36
    []
    (hex
    ("0E000000 0D00 03000000 00000000 00000000"
    ∷ "0E000000 0D00 0D000000 00000000 00000000"
    ∷ []))
    (zeros 160)) ∷
    -- ---- the order of the numbers
    -- 3 before 5: the first byte neither white space nor printable, also after a token that is not allowed
    (lent (36 ∷ 46 ∷ 32 ∷ 1 ∷ 32 ∷ 2 ∷ []) (old 64) [] []
    gives result 3 3 0 0 [] [] (zeros 64)) ∷
    -- 5 at the earlier token, before 4
    (lent (codes "$. $(") (old 48) [] []
    gives result 5 0 0 0 [] [] (zeros 48)) ∷
    -- 8 before 9, in bytes of the whole stream
    (lent (codes "$c c $. a $a c $. b $a d $.") (old 192) (old 47) (old 17)
    gives result 8 48 0 0 (old 47) (old 17) (zeros 192)) ∷
    -- 9
    (lent (codes "$c c $. a $a c $. b $a d $.") (old 192) (old 48) (old 17)
    gives result 9 18 0 0 (old 48) (old 17) (zeros 192)) ∷
    []

pub slips : map computed cases ≡ map expected cases
unfolding operation hex
slips = refl
