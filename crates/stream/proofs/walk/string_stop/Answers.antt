use native.Mathlib.Omega.{arith}
use Rattle.stream.proofs.Strings.{stop_short, stop_over, stop_there}
use Rattle.stream.proofs.walk.string_stop.Goals as goal

pub returns-then-end-start : goal.returns-then-end-start
returns-then-end-start c = stop_short _ _ _ (omega arith)

pub returns-then-end-start-2 : goal.returns-then-end-start-2
returns-then-end-start-2 c = stop_over _ _ _ (omega arith) _ c.u32_at-length.ensures.1 (omega arith)

pub returns : goal.returns
returns c = stop_there _ _ _ (omega arith) _ c.u32_at-length.ensures.1 (omega arith)
