-- What is recorded before a statement, and what that statement gives.
-- `l` is the statements of the whole text.
use Rattle.std.specs.Prelude.{List, ℕ, zero, suc}
use Rattle.paper.specs.Statements.{Statement}
use Rattle.paper.specs.State.{State, nothing, plus, view}
use Rattle.paper.specs.Give.{Given, give}
use Rattle.reader.specs.Rows.{stmt}

-- the state before the k-th statement
unfoldable pub state_at : List Statement → ℕ → State
state_at l zero = nothing
state_at l (suc k) =
    let x = state_at l k in
    plus x (give l (view x (stmt l k).at) (stmt l k)).records

-- what is active of it at the k-th statement
unfoldable pub view_at : List Statement → ℕ → State
view_at l k = view (state_at l k) (stmt l k).at

-- what the k-th statement gives
unfoldable pub given_at : List Statement → ℕ → Given
given_at l k = give l (view_at l k) (stmt l k)
