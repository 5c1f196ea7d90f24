-- A8 of document 02: the short frame of an assertion is its full one restricted to mandatory variables, for all frames.
-- On one side the frame built from the mandatory variables and their rows, on the other the full frame cut.
use Rattle.std.specs.Prelude.{◌≡◌, ◌++◌, ℕ, length}
use Rattle.paper.specs.Base.{gather}
use Rattle.paper.specs.Statements.{Statement}
use Rattle.paper.specs.State.{Formula, State}
use Rattle.paper.specs.Variables.{mandatory}
use Rattle.paper.specs.Expressions.{pool_of, expression, pooled, hypotheses}
use Rattle.paper.specs.Pairs.{in_order, pairs, rows}
use Rattle.paper.specs.Frames.{Frame, full, frame_of, frame_as}
use Rattle.paper.specs.declared.Setting.TheVariants.{Short}

-- the frame over the mandatory variables alone: V is M, and rows are over those
unfoldable pub short_of : ℕ → Statement → State → Formula → Frame
short_of k s v f =
    let m = mandatory v.hyps f in
    let d = in_order v.disjoints in
    let p = gather pooled v.hyps in
    full
    (record {
      kind = k;
      at = s.at;
      label = s.label;
      variables = m;
      mandatory = length m;
      pool = p ++ pool_of f;
      hyps = hypotheses m v.hyps 0;
      target = expression m f (length p);
      pairs = pairs m d;
      rows = rows m d;
    })

abbrev pub Restricted : Type 0
Restricted = (k : ℕ) (s : Statement) (v : State) (f : Formula) → frame_as Short (frame_of k s v f) ≡ short_of k s v f
