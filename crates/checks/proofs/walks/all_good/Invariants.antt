use Rattle.checks.proofs.Good.{InvGood}
use Rattle.checks.proofs.walks.all_good.Given as goal

abbrev pub invariant-loop-i : goal.invariant-loop-i
invariant-loop-i l = InvGood l.work l.n l.first l.count l.s.0 l.i
