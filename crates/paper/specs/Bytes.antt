-- The reader: the classes of a byte.
-- White space is bytes 9, 10, 12, 13, 32. Printable is 33 to 126.
use Rattle.std.specs.Prelude.{Bool, ℕ, eqb}
use Prim.Native.Char.{code}
use Rattle.paper.specs.Base.{and, or, not, within}

unfoldable pub white : ℕ → Bool
white b = or (within 9 10 b) (or (within 12 13 b) (eqb b 32))

unfoldable pub printable : ℕ → Bool
printable b = within 33 126 b

-- letters, digits, `-`, `_`, `.`
unfoldable pub label_byte : ℕ → Bool
label_byte b =
    or (within 65 90 b) (or (within 97 122 b) (or (within 48 57 b) (or (eqb b 45) (or (eqb b 95) (eqb b 46)))))

abbrev pub dollar : ℕ
dollar = code "$"

-- printable without `$`
unfoldable pub math_byte : ℕ → Bool
unfolding printable
math_byte b = and (printable b) (not (eqb b dollar))
