use Rattle.disjoint.proofs.Walks.{InvClear}
use Rattle.disjoint.proofs.tally.clear_marks.Given as goal

abbrev pub invariant-loop-k : goal.invariant-loop-k
invariant-loop-k l = InvClear l.initial.work l.work l.n l.m l.k
