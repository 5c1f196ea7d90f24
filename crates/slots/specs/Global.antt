-- The outermost `$d` that are active, as rows: what `lookup_global_dv` answers.
-- `rs` are the rows of the `$d` recorded before the k-th statement, in text order, o is its offset.
use Rattle.std.specs.Prelude.{◌≡◌, Bool, List, ℕ, ◌≤◌, length}
use Rattle.paper.specs.Base.{keep}
use Rattle.paper.specs.Statements.{Statement, outermost}
use Rattle.reader.specs.Rows.{stmt}
use Rattle.facts.specs.Facts.{Facts}
use Rattle.nameck.specs.Named.{Named}
use Rattle.sight.specs.Static.{stack}
use Rattle.slots.specs.Stack.{row_active, Stack}

abbrev pub row_outer : List Statement → ℕ → Bool
row_outer l r = outermost (stmt l r)

-- the first r of d entries are the rows of the active `$d` that are outermost
pub record GlobalDv (w : List ℕ) (n d r : ℕ) : Type 0 where
  pub few : r ≤ d
  pub sim :
      {t : List ℕ} {l : List Statement} {rs : List ℕ} {k o : ℕ} → Named t w n l → Facts t l → k ≤ length l
      → Stack w 11 l rs d k o → stack w 11 r ≡ keep (row_outer l) (keep (row_active l o) rs)
