-- Scope rules: the frame of an assertion, and the stub frame of a `$f`.
-- Optional variables follow the mandatory ones, by first sight through active `$d`; a setting leaves them out.
use Rattle.std.specs.Prelude.{Bool, List, ◌++◌, map, ℕ, length, take}
use Rattle.paper.specs.Base.{gather}
use Rattle.paper.specs.Statements.{Statement}
use Rattle.paper.specs.State.{Formula, State}
use Rattle.paper.specs.Variables.{sights, mandatory}
use Rattle.paper.specs.Expressions.{pool_of, Expression, expression, Hypothesis, pooled, hypotheses}
use Rattle.paper.specs.Pairs.{in_order, Pair, pairs, rows}
use Rattle.paper.specs.declared.Setting.{Setting}
use Rattle.paper.specs.declared.Setting.TheVariants as setting

pub record Full : Type 0 where
  pub kind : ℕ
  pub at : ℕ
  pub label : List ℕ
  pub variables : List (List ℕ)
  pub mandatory : ℕ
  pub pool : List ℕ
  pub hyps : List Hypothesis
  pub target : Expression
  pub pairs : List Pair
  pub rows : List (List Bool)

-- start, end, label, typecode, variable of a `$f`; or the frame of an assertion
pub data Frame : Type 0 where
  stub : ℕ → ℕ → List ℕ → List ℕ → List ℕ → Frame
  full : Full → Frame

unfoldable pub frame_of : ℕ → Statement → State → Formula → Frame
frame_of k s v f =
    let m = mandatory v.hyps f in
    let d = in_order v.disjoints in
    let l = sights (gather (λ n. n) d) m in
    let p = gather pooled v.hyps in
    full
    (record {
      kind = k;
      at = s.at;
      label = s.label;
      variables = l;
      mandatory = length m;
      pool = p ++ pool_of f;
      hyps = hypotheses m v.hyps 0;
      target = expression m f (length p);
      pairs = pairs m d;
      rows = rows l d;
    })

-- ---- A8 of document 02: frames with the M mandatory variables only, V equal to M and rows over those
-- the first M of the variables, of the rows, and of each row
abbrev pub restricted : Full → Full
restricted f =
    record {
      kind = f.kind;
      at = f.at;
      label = f.label;
      variables = take f.mandatory f.variables;
      mandatory = f.mandatory;
      pool = f.pool;
      hyps = f.hyps;
      target = f.target;
      pairs = f.pairs;
      rows = map (take f.mandatory) (take f.mandatory f.rows);
    }

-- a frame as the setting has it; that of a `$f` has no optional variables
abbrev pub frame_as : Setting → Frame → Frame
frame_as setting.Full x = x
frame_as setting.Short (stub o e n c v) = stub o e n c v
frame_as setting.Short (full f) = full (restricted f)
