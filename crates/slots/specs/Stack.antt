-- The stacks of active `$e` and `$d`: row k of word c of the statements holds the row of the k-th of them.
-- What stands on a stack is what is active of the rows recorded.
use Rattle.std.specs.Prelude.{◌≡◌, Bool, List, ℕ, zero, suc, ◌+◌, ◌*◌, ◌<◌, ◌≤◌, ltb}
use Rattle.paper.specs.Base.{choose, keep}
use Rattle.paper.specs.Statements.{Statement}
use Rattle.area.specs.Cells.{statement_cell, word}
use Rattle.reader.specs.Rows.{stmt}
use Rattle.sight.specs.Static.{stack}
use Rattle.slots.specs.Kept.{Room}

-- ---- the words: the end of entry i; the depth after what is closed at o is dropped
unfoldable pub end_at : List ℕ → ℕ → ℕ → ℕ
end_at w c i = word w (statement_cell (word w (statement_cell i c)) 7)

unfoldable pub pop_of : List ℕ → ℕ → ℕ → ℕ → ℕ
pop_of w c zero o = zero
pop_of w c (suc d) o = let r = pop_of w c d o in choose (ltb o (end_at w c d)) (suc d) r

-- d entries lie in the work area, and so do the statements that they name
pub record Deep (w : List ℕ) (n c d : ℕ) : Type 0 where
  pub room : Room w n
  pub column : c < 12
  pub depth : 3 * d ≤ n
  pub entry : (i : ℕ) → i < d → 3 * word w (statement_cell i c) + 3 ≤ n

-- ---- the rows: whether that of row r is active at o
abbrev pub row_active : List Statement → ℕ → ℕ → Bool
row_active l o r = ltb o (stmt l r).end

-- the d entries are those of the rows `rs` that are active at o; all stand before the k-th; ends do not rise from bottom to top
pub record Stack (w : List ℕ) (c : ℕ) (l : List Statement) (rs : List ℕ) (d k o : ℕ) : Type 0 where
  pub holds : stack w c d ≡ keep (row_active l o) rs
  pub rows : (i : ℕ) → i < d → word w (statement_cell i c) < k
  pub alive : (i : ℕ) → i < d → o < (stmt l (word w (statement_cell i c))).end
  pub falls : (i j : ℕ) → i ≤ j → j < d → (stmt l (word w (statement_cell j c))).end ≤ (stmt l (word w (statement_cell i c))).end
