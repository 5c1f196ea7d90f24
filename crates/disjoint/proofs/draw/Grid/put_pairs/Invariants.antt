use Rattle.disjoint.proofs.Draws.{InvAllDrawn}
use Rattle.disjoint.proofs.draw.Grid.put_pairs.Given as goal

abbrev pub invariant-loop-k : goal.invariant-loop-k
invariant-loop-k l = InvAllDrawn l.work l.initial.buf l.buf l.n l.ds l.fn.self l.at l.a l.k
