-- Where the words of the work area lie, and that only some of them differ.
-- n is N + 1, the number of rows; all cells are linear in n and the row.
use Rattle.std.specs.Prelude.{◌≡◌, List, ℕ, ◌+◌, ◌*◌, ◌<◌, ◌≤◌, length, get_or}

abbrev pub statement_cell : ℕ → ℕ → ℕ
statement_cell r c = 12 * r + c

abbrev pub name_cell : ℕ → ℕ → ℕ → ℕ
name_cell n r c = 4 * n + 3 * r + c

abbrev pub bucket_cell : ℕ → ℕ → ℕ
bucket_cell n r = 7 * n + r

abbrev pub symbol_cell : ℕ → ℕ → ℕ → ℕ
symbol_cell n r c = 8 * n + 7 * r + c

abbrev pub math_cell : ℕ → ℕ → ℕ
math_cell n r = 15 * n + r

-- the word at a cell
unfoldable pub word : List ℕ → ℕ → ℕ
word w i = get_or w i 0

-- only the words from a up to e may differ
pub record Only (a e : ℕ) (w v : List ℕ) : Type 0 where
  pub len : length v ≡ length w
  pub below : (i : ℕ) → i < a → word v i ≡ word w i
  pub above : (i : ℕ) → e ≤ i → word v i ≡ word w i

-- the words from a up to e are 0, and the others are as before
pub record Cleared (a e : ℕ) (w v : List ℕ) : Type 0 where
  pub only : Only a e w v
  pub zeros : (i : ℕ) → a ≤ i → i < e → word v i ≡ 0
