use Rattle.disjoint.proofs.Draws.{InvRowDrawn}
use Rattle.disjoint.proofs.draw.Grid.put_pairs_of.Given as goal

abbrev pub invariant-loop-i : goal.invariant-loop-i
invariant-loop-i l = InvRowDrawn l.work l.initial.buf l.buf l.n l.fn.row.0 l.fn.self l.at l.a l.i
