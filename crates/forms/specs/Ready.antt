-- What the words stand for while a frame is written: a text, its statements, and the variables of the frame.
-- `m` are the mandatory variables, the first of `vs`.
use Rattle.std.specs.Prelude.{◌≡◌, true, List, ℕ, ◌<◌, length}
use Rattle.paper.specs.Statements.{Statement}
use Rattle.paper.specs.Variables.{member, variables_of}
use Rattle.paper.proofs.Names.{Grown}
use Rattle.reader.specs.Rows.{stmt}
use Rattle.facts.specs.Facts.{Facts}
use Rattle.sight.specs.Static.{static}
use Rattle.sight.specs.Numbered.{Holds}

pub record Ready (t w : List ℕ) (n : ℕ) (l : List Statement) (vs : List (List ℕ)) : Type 0 where
  pub holds : Holds t w n l vs (length vs)
  pub facts : Facts t l

-- the formula of a row, all of whose variables are mandatory
pub record Spelled (t w : List ℕ) (n : ℕ) (l : List Statement) (vs m : List (List ℕ)) (row : ℕ) : Type 0 where
  pub ready : Ready t w n l vs
  pub grown : Grown m vs
  pub here : row < length l
  pub covers : (x : List ℕ) → member x (variables_of (static l (stmt l row))) ≡ true → member x m ≡ true
