-- The turn of a statement in the fold: the words after its checks, and what its frame then gives.
-- `l` is the statements of the text t, `k` the row of the statement in hand, `st` the state after its checks.
use Rattle.std.specs.Prelude.{◌≡◌, true, Option, None, Some, List, [], ◌∷◌, ℕ, ◌+◌, ◌<◌, length}
use Rattle.std.proofs.Math.Option.{none}
use Rattle.paper.specs.Base.{find}
use Rattle.paper.specs.Statements.{Statement}
use Rattle.paper.specs.Frames.{Frame}
use Rattle.paper.specs.Give.{Given}
use Rattle.paper.specs.Records.{frame_records}
use Rattle.paper.specs.Answer.{crowded}
use Rattle.paper.specs.declared.Setting.{Setting}
use Rattle.stream.specs.Wrote.{Wrote}
use Rattle.reader.specs.Rows.{stmt}
use Rattle.facts.specs.Facts.{Facts}
use Rattle.facts.specs.States.{given_at}
use Rattle.nameck.specs.Named.{Named}
use Rattle.sight.specs.Numbered.{Numbered, Renumbered}
use Rattle.slots.specs.Kept.{Room}
use Rattle.scopeck.specs.declared.Scope.{Scope}
use Rattle.scopeck.specs.Scope.{Stands}
use Rattle.scopeck.specs.Fold.{Marked}

-- the checks of statement k are done; no variable is numbered
pub record Turn (t w : List ℕ) (n : ℕ) (l : List Statement) (st : Scope) (k : ℕ) : Type 0 where
  pub named : Named t w n l
  pub facts : Facts t l
  pub room : Room w n
  pub inside : k < length l
  pub stands : Stands w n l st (k + 1) (stmt l k).at
  pub marked : Marked w l (k + 1)
  pub free : Numbered w n l []

pub record SomeTurn (t w : List ℕ) (n : ℕ) (st : Scope) (k : ℕ) : Type 0 where
  pub of : List Statement
  pub holds : Turn t w n of st k

-- the frame records of what a statement gives, as the setting c has them, written with the place after them; or its frame has over 4,095 variables
pub data Told (c : Setting) (b b' : List ℕ) (at : ℕ) (g : Given) : Option ℕ → Type 0 where
  told : {r : ℕ} → find crowded g.frame ≡ none → Wrote b b' at r (frame_records c g) → Told c b b' at g (Some r)
  over : (x : Frame) → g.frame ≡ x ∷ [] → crowded x ≡ true → Told c b b' at g None

pub record Turned (c : Setting) (t w v : List ℕ) (n : ℕ) (st : Scope) (k : ℕ) (b b' : List ℕ) (at : ℕ) (r : Option ℕ) : Type 0 where
  pub kept : Renumbered n w v
  pub len : length b' ≡ length b
  pub sim : {l : List Statement} → Turn t w n l st k → Numbered v n l [] × Told c b b' at (given_at l k) r
