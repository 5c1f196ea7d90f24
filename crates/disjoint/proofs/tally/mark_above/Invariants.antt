use Rattle.disjoint.proofs.Walks.{InvRow}
use Rattle.disjoint.proofs.tally.mark_above.Given as goal

abbrev pub invariant-loop-i : goal.invariant-loop-i
invariant-loop-i l = InvRow l.initial.work l.work l.n l.m l.fn.row.0 l.fn.u.0 l.sum l.i
