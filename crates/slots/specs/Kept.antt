-- Which words of the work area a function may change, by the columns of a statement and of a symbol.
-- The names of the text and its math tokens are never changed.
use Rattle.std.specs.Prelude.{◌≡◌, List, ℕ, ◌+◌, ◌*◌, ◌<◌, ◌≤◌, length}
use Rattle.area.specs.Cells.{statement_cell, name_cell, symbol_cell, math_cell, word}

-- the words of n rows are there, and n is as small as a text allows
pub record Room (w : List ℕ) (n : ℕ) : Type 0 where
  pub room : 16 * n ≤ length w
  pub small : n ≤ 16777217

-- only words from a up to b of a statement, and from c up to d of a symbol, may differ
pub record Kept (n a b c d : ℕ) (w v : List ℕ) : Type 0 where
  pub len : length v ≡ length w
  pub low : (s j : ℕ) → 3 * s + 3 ≤ n → j < a → j < 12 → word v (statement_cell s j) ≡ word w (statement_cell s j)
  pub high : (s j : ℕ) → 3 * s + 3 ≤ n → b ≤ j → j < 12 → word v (statement_cell s j) ≡ word w (statement_cell s j)
  pub names : (r j : ℕ) → r < n → j < 3 → word v (name_cell n r j) ≡ word w (name_cell n r j)
  pub left : (r j : ℕ) → r < n → j < c → j < 7 → word v (symbol_cell n r j) ≡ word w (symbol_cell n r j)
  pub right : (r j : ℕ) → r < n → d ≤ j → j < 7 → word v (symbol_cell n r j) ≡ word w (symbol_cell n r j)
  pub maths : (r : ℕ) → word v (math_cell n r) ≡ word w (math_cell n r)
