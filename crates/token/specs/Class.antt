-- The class of a byte as a number, in such an order that each property is one comparison, and the table of all classes.
-- 0 neither white space nor printable, 1 white space, 2 `$`, 3 another printable byte, 4 a byte of a label.
use Rattle.std.specs.Prelude.{List, [], ◌∷◌, ℕ, min, eqb}
use Rattle.paper.specs.Base.{choose, table}
use Rattle.paper.specs.Bytes.{white, printable, label_byte}

unfoldable pub class : ℕ → ℕ
class b = choose (white b) 1 (choose (printable b) (choose (eqb b 36) 2 (choose (label_byte b) 4 3)) 0)

-- the classes of bytes 0 to 255
unfoldable pub classes : List ℕ
classes = table class 256

-- the least class of some bytes, and of a number that stands for those before them
unfoldable pub least : List ℕ → ℕ → ℕ
least [] a = a
least (b ∷ l) a = least l (min a (class b))
