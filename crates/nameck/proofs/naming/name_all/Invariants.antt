use Rattle.nameck.proofs.Whole.{InvAll}
use Rattle.nameck.proofs.naming.name_all.Given as goal

abbrev pub invariant-loop-s : goal.invariant-loop-s
invariant-loop-s l = InvAll l.text l.initial.work l.work l.n l.rows l.k l.s
