use Rattle.sight.proofs.Stacks.{InvAll}
use Rattle.sight.proofs.scan_all.Given as goal

abbrev pub invariant-loop-k : goal.invariant-loop-k
invariant-loop-k l = InvAll l.initial.work l.work l.n l.vars l.v l.column l.depth l.fn.from.0 l.k
