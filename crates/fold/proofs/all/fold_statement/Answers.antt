use Rattle.fold.specs.Fold.{next, over}
use Rattle.fold.proofs.all.fold_statement.Goals as goal

pub returns-in_err-after : goal.returns-in_err-after
returns-in_err-after c = rw c.from_residual.ensures (over c.check_statement-next.ensures c.in_err-after.ensures)

pub returns : goal.returns
returns c = next c.check_statement-next.ensures c.in_ok-after.ensures
