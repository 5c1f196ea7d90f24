-- Short frames (A8 of document 02): a table of the smallest texts on which they part from full ones, proved by one statement.
-- Bytes are those of the frame stream under the setting Short.
use mathlib.Core.Path.{◌≡◌, refl}
use mathlib.Core.List.{List, [], ◌∷◌, map}
use Rattle.paper.specs.Base.{codes}
use Rattle.paper.specs.declared.Setting.TheVariants.{Short}
use Rattle.paper.proofs.Table.{Case, lent, result, ◌gives◌, expected, operation, computed_as, old, zeros, hex}

abbrev pub cases : List Case
cases =
    -- an optional variable is left out: V is 0, and there are no rows
    (lent (codes "$c w $. $v x y $. $d x y $. a $a w $.") (old 256) (old 48) []
    gives result 0 0 48 0
    (hex
    ("2C00000002001C0000000100000061000000000000000000000000010000007700000000000000000000000000000000"
    ∷ []))
    []
    (zeros 256)) ∷
    -- a mandatory variable has its row, over the mandatory ones
    (lent (codes "$c c $. $v x y $. f $f c x $. $d x y $. a $a c x $.") (old 352) (old 106) []
    gives result 0 0 106 0
    (hex
    ("19000000040012000000FFFFFFFF01000000660100000063010000007849000000020028000000010000006101000100"
    ∷ "010000007800000000010000000100120000000000010000006301000000630100000000000000000000000000000000"
    ∷ "00000000000000000000"
    ∷ []))
    []
    (zeros 352)) ∷
    -- pairs are those of the full frame; a row is cut at M
    (lent (codes "$c c $. $v x y z $. f $f c x $. g $f c y $. $d z x y $. a $a c y x $.") (old 480) (old 168) []
    gives result 0 0 168 0
    (hex
    ("19000000040014000000FFFFFFFF01000000660100000063010000007819000000040020000000FFFFFFFF0100000067"
    ∷ "010000006301000000796A00000002003800000001000000610200020001000000790100000078000000000200000001"
    ∷ "001400000001000100000063010020000000000001000000630100000063020000000000000000000000000000000000"
    ∷ "000000000100000000000000000001000000010000000201"
    ∷ []))
    []
    (zeros 480)) ∷
    -- a frame without optional variables is as before: the whole case
    (lent (codes "$c ( ) wff $. $v x $. wx $f wff x $. ax $a wff ( x ) $.") (old 336) (old 116) []
    gives result 0 0 116 0
    (hex
    ("1C000000040016000000FFFFFFFF02000000777803000000776666010000007850000000020025000000020000006178"
    ∷ "01000100010000007802000000A8A9010000000100160000000000030000007766660300000077666601000000000000"
    ∷ "0001000000000001000000020000000000000000"
    ∷ []))
    []
    (zeros 336)) ∷
    []

pub shorts : map (computed_as Short) cases ≡ map expected cases
unfolding operation hex
shorts = refl
