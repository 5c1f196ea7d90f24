use Rattle.sight.proofs.Walks.{InvScan}
use Rattle.sight.proofs.scan.Given as goal

abbrev pub invariant-loop-i : goal.invariant-loop-i
invariant-loop-i l = InvScan l.initial.work l.work l.n l.vars l.v l.fn.row.0 l.fn.from.0 l.i
