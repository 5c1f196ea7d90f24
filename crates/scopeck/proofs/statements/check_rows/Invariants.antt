use Rattle.scopeck.proofs.Whole.{InvRows}
use Rattle.scopeck.proofs.statements.check_rows.Given as goal

abbrev pub invariant-loop-row : goal.invariant-loop-row
invariant-loop-row l = InvRows l.text l.initial.work l.work l.initial.diags l.diags l.n l.rows l.st l.row
