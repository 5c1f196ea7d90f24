use native.Mathlib.Omega.{arith}
use Rattle.unify.proofs.Matches.{part_flag, part_end, part_differs, part_more}
use Rattle.unify.proofs.matching.match_part.Goals as goal

pub returns-then-stack-i-ge-FLAG : goal.returns-then-stack-i-ge-FLAG
returns-then-stack-i-ge-FLAG c = part_flag c.loop-i.invariant (omega arith) (omega arith)

pub returns-in_err-q : goal.returns-in_err-q
returns-in_err-q c = rw c.from_residual.ensures (part_differs c.loop-i.invariant (omega arith) (omega arith) c.in_err-q.ensures)

pub loop-i-preserved : goal.loop-i-preserved
loop-i-preserved c = part_more c.loop-i.invariant (omega arith) (omega arith) c.in_ok-q.ensures

pub returns : goal.returns
returns c = part_end c.loop-i.invariant (omega arith)
