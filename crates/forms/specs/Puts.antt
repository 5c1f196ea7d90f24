-- What the writers of names and of the pool promise, for every statement list that the words stand for.
-- Each also bounds the place that it answers.
use Rattle.std.specs.Prelude.{◌≡◌, List, ◌++◌, ℕ, ◌+◌, ◌*◌, ◌<◌, ◌≤◌, length, take}
use Rattle.paper.specs.Base.{gather}
use Rattle.paper.specs.Statements.{Statement}
use Rattle.paper.specs.Expressions.{pool_of}
use Rattle.paper.specs.Records.{string}
use Rattle.stream.specs.Wrote.{Wrote}
use Rattle.reader.specs.Rows.{stmt}
use Rattle.sight.specs.Static.{static, stack}
use Rattle.forms.specs.Words.{stack_constants, stack_size, Before, essential_row}
use Rattle.forms.specs.Ready.{Ready}

-- the names of the first k variables
pub record PutNames (t w : List ℕ) (n k : ℕ) (b b' : List ℕ) (at r : ℕ) : Type 0 where
  pub few : r ≤ at + 16777220 * k
  pub sim : (l : List Statement) (vs : List (List ℕ)) → Ready t w n l vs → k ≤ length vs → Wrote b b' at r (gather string (take k vs))

-- the constants of es active `$e`, and how many bytes they are
pub record PutStack (t w : List ℕ) (n es : ℕ) (b b' : List ℕ) (at r : ℕ) : Type 0 where
  pub few : (c : ℕ) → Before w es c → r ≤ at + 16777216 * c
  pub wrote : Wrote b b' at r (stack_constants t w n es)

pub record StackLength (w : List ℕ) (n es r : ℕ) : Type 0 where
  pub few : (c : ℕ) → Before w es c → r ≤ 16777216 * c
  pub is : r ≡ stack_size w n es

-- the pool of a statement's row
abbrev pub row_pool : List Statement → ℕ → List ℕ
row_pool l r = pool_of (static l (stmt l r))

pub record PutPool (t w : List ℕ) (n es row : ℕ) (b b' : List ℕ) (at r : ℕ) : Type 0 where
  pub few : r ≤ at + 4 + 16777216 * n
  pub sim :
      (l : List Statement) (vs : List (List ℕ)) → Ready t w n l vs → row < length l
      → ((k : ℕ) → k < es → essential_row w k < length l)
      → Wrote b b' at r (string (gather (row_pool l) (stack w 10 es) ++ row_pool l row))
