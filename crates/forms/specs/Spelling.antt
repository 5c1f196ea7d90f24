-- What the writers of an expression promise, for every statement list and every variables that the words stand for.
-- Each also bounds the place that it answers.
use Rattle.std.specs.Prelude.{◌≡◌, ◌≢◌, List, ◌++◌, ℕ, ◌+◌, ◌-◌, ◌*◌, ◌<◌, ◌≤◌, eqb}
use Rattle.paper.specs.Base.{choose, gather}
use Rattle.paper.specs.Statements.{Statement, none_end}
use Rattle.paper.specs.Expressions.{expression}
use Rattle.paper.specs.Records.{u32, fragment_bytes, expression_bytes}
use Rattle.area.specs.Cells.{symbol_cell, word}
use Rattle.stream.specs.Wrote.{Wrote}
use Rattle.reader.specs.Rows.{stmt}
use Rattle.sight.specs.Static.{static}
use Rattle.forms.specs.declared.expression.Reached.{Reached}
use Rattle.forms.specs.Words.{count_of, constant_size, sizes_to, variable_size, variables_to, starts, piece_by, pieces, SomeName}
use Rattle.forms.specs.Ready.{Spelled}

-- one symbol: the place in the buffer, and the fragment in hand in the pool
pub record CanPutSymbol (w : List ℕ) (n : ℕ) (p : Reached) (a : ℕ) : Type 0 where
  pub name : SomeName w n a
  pub numbered : word w (symbol_cell n a 5) ≢ 0
  pub at : p.at < 4611686018427387904
  pub from : p.from < 4611686018427387904
  pub to : p.to < 4611686018427387904
  pub variables : p.variables < 4611686018427387904

pub record PutSymbol (w : List ℕ) (n : ℕ) (b b' : List ℕ) (p r : Reached) (a : ℕ) : Type 0 where
  pub few : r.at ≤ p.at + 10
  pub starts_at : r.from ≡ choose (eqb (word w (symbol_cell n a 5)) none_end) p.from p.to
  pub size : constant_size w n a ≤ 16777216
  pub stops_at : r.to ≡ p.to + constant_size w n a
  pub counted : r.variables ≡ p.variables + variable_size (word w (symbol_cell n a 5))
  pub wrote : Wrote b b' p.at r.at (gather fragment_bytes (piece_by (word w (symbol_cell n a 5)) p.from p.to))

-- the fragments of a row and its rump
unfoldable pub spelling : List ℕ → ℕ → ℕ → ℕ → List ℕ
spelling w n row a =
    gather fragment_bytes (pieces w n row a (count_of w row - 1))
    ++ (u32 (starts w n row a (count_of w row - 1)) ++ u32 (a + sizes_to w n row (count_of w row)))

-- the constants of a row stand in the pool from a up to z
pub record Pooled (w : List ℕ) (n row a z : ℕ) : Type 0 where
  pub is : z ≡ a + sizes_to w n row (count_of w row)
  pub few : z ≤ a + 16777216 * count_of w row

pub record PutFragments (w : List ℕ) (n row a : ℕ) (b b' : List ℕ) (at : ℕ) (r : Reached) : Type 0 where
  pub few : r.at ≤ at + 8 + 10 * n
  pub pooled : Pooled w n row a r.to
  pub counted : r.variables ≡ variables_to w n row (count_of w row)
  pub wrote : Wrote b b' at r.at (spelling w n row a)

-- the expression of a row whose constants stand in the pool from a on
pub record PutExpression (t w : List ℕ) (n row a : ℕ) (b b' : List ℕ) (at r : ℕ) : Type 0 where
  pub few : r ≤ at + 16777232 + 10 * n
  pub sim :
      (l : List Statement) (vs m : List (List ℕ)) → Spelled t w n l vs m row
      → Wrote b b' at r (expression_bytes (expression m (static l (stmt l row)) a))
