use Rattle.token.proofs.Weights.{Weighing}
use Rattle.token.proofs.count.weigh_all.Given as goal

abbrev pub invariant-loop-b : goal.invariant-loop-b
invariant-loop-b l = Weighing l.text l.tokens l.sum l.before l.b-index
