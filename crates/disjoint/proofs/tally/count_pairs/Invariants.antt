use Rattle.disjoint.proofs.Walks.{InvAll}
use Rattle.disjoint.proofs.tally.count_pairs.Given as goal

abbrev pub invariant-loop-u : goal.invariant-loop-u
invariant-loop-u l = InvAll l.initial.work l.work l.n l.m l.ds l.sum l.u
