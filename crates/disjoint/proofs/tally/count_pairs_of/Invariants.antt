use Rattle.disjoint.proofs.Walks.{InvOf}
use Rattle.disjoint.proofs.tally.count_pairs_of.Given as goal

abbrev pub invariant-loop-k : goal.invariant-loop-k
invariant-loop-k l = InvOf l.initial.work l.work l.n l.m l.ds l.fn.u.0 l.sum l.k
