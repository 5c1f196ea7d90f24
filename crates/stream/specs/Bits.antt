-- A bit of a byte and of the bytes from a place on; and the bytes with it set.
-- Rows of bits are read and written through these.
use Rattle.std.specs.Prelude.{Bool, List, ℕ, ◌+◌, ◌/◌, ◌%◌, ◌^◌, eqb, get_or, set}
use Rattle.paper.specs.Base.{choose}

-- bit k of a byte, lowest first; and the byte with it set
unfoldable pub lit : ℕ → ℕ → Bool
lit x k = eqb (x / 2 ^ k % 2) 1

unfoldable pub light : ℕ → ℕ → ℕ
light x k = choose (lit x k) x (x + 2 ^ k)

-- bit j mod 8 of byte j/8 from the place `at` on; and the bytes with it set
unfoldable pub bit_at : List ℕ → ℕ → ℕ → Bool
bit_at l at j = lit (get_or l (at + j / 8) 0) (j % 8)

unfoldable pub with_bit : List ℕ → ℕ → ℕ → List ℕ
with_bit l at j = set l (at + j / 8) (light (get_or l (at + j / 8) 0) (j % 8))
