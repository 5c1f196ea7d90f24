-- Sums over the numbers below n, to count by.
-- Nothing here is about Metamath.
use Rattle.std.specs.Prelude.{Bool, true, false, ℕ, zero, suc, ◌+◌}

-- f 0 + f 1 + ..., n of them
unfoldable pub sum : (ℕ → ℕ) → ℕ → ℕ
sum f zero = 0
sum f (suc n) = sum f n + f n

abbrev pub one : Bool → ℕ
one true = 1
one false = 0
