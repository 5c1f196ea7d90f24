use Rattle.unify.proofs.Pushes.{Copying}
use Rattle.unify.proofs.expand.copy_part.Given as goal

abbrev pub invariant-loop-i : goal.invariant-loop-i
invariant-loop-i l = Copying l.initial.stack l.stack l.top l.s l.p l.i l.q
