use Rattle.scopeck.specs.Fold.{Forgotten}
use Rattle.scopeck.proofs.statements.forget_all.Given as goal

abbrev pub invariant-loop-a : goal.invariant-loop-a
invariant-loop-a l = Forgotten l.initial.work l.work l.n l.a
