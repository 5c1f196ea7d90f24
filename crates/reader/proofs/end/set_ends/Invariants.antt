use Rattle.reader.specs.Ends.{Backward}
use Rattle.reader.proofs.end.set_ends.Given as goal

abbrev pub invariant-loop-j : goal.invariant-loop-j
invariant-loop-j l = Backward l.initial.work l.work l.n l.rows l.items l.j l.b.row l.b.depth
