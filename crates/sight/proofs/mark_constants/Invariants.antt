use Rattle.sight.proofs.Constants.{InvMark}
use Rattle.sight.proofs.mark_constants.Given as goal

abbrev pub invariant-loop-a : goal.invariant-loop-a
invariant-loop-a l = InvMark l.initial.work l.work l.n l.names l.a
