use Rattle.disjoint.proofs.Draws.{InvAt}
use Rattle.disjoint.proofs.draw.Grid.put_pairs_at.Given as goal

abbrev pub invariant-loop-j : goal.invariant-loop-j
invariant-loop-j l = InvAt l.work l.initial.buf l.buf l.n l.fn.row.0 l.k l.fn.self l.at l.a l.x.0 l.j
