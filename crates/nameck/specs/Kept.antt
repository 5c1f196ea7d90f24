-- What may be written after naming: every word but those that say what the statements and the names are.
-- `n` is N + 1.
use Rattle.std.specs.Prelude.{◌≡◌, List, ℕ, ◌+◌, ◌*◌, ◌<◌, ◌≤◌, length}
use Rattle.area.specs.Cells.{statement_cell, name_cell, symbol_cell, math_cell, word}

-- statement words 0 to 7, name words 0 and 1, symbol words 0 and 1 and the math column are the same
pub record Kept (n : ℕ) (w v : List ℕ) : Type 0 where
  pub len : length v ≡ length w
  pub statements : (s c : ℕ) → 3 * s + 3 ≤ n → c < 8 → word v (statement_cell s c) ≡ word w (statement_cell s c)
  pub names : (a c : ℕ) → a < n → c < 2 → word v (name_cell n a c) ≡ word w (name_cell n a c)
  pub symbols : (a c : ℕ) → a < n → c < 2 → word v (symbol_cell n a c) ≡ word w (symbol_cell n a c)
  pub maths : (i : ℕ) → i < n → word v (math_cell n i) ≡ word w (math_cell n i)
