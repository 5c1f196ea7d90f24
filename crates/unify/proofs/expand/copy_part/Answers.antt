use native.Mathlib.Omega.{arith}
use Rattle.unify.proofs.Pushes.{copy_end, copy_flag, copy_more, copy_full}
use Rattle.unify.proofs.expand.copy_part.Goals as goal

pub returns-then-x-ge-FLAG : goal.returns-then-x-ge-FLAG
returns-then-x-ge-FLAG c = copy_flag (omega arith) (omega arith) c.loop-i.invariant (omega arith) (omega arith)

pub returns-in_err-q : goal.returns-in_err-q
returns-in_err-q c = rw c.from_residual.ensures (copy_full (omega arith) (omega arith) c.loop-i.invariant (omega arith) (omega arith) c.in_err-q.ensures)

pub loop-i-preserved : goal.loop-i-preserved
loop-i-preserved c = copy_more (omega arith) (omega arith) c.loop-i.invariant (omega arith) (omega arith) c.in_ok-q.ensures

pub returns : goal.returns
returns c = copy_end (omega arith) (omega arith) c.loop-i.invariant (omega arith)
