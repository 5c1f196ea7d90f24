use Rattle.fold.proofs.Folds.{InvFold}
use Rattle.fold.proofs.all.fold_rows.Given as goal

abbrev pub invariant-loop-row : goal.invariant-loop-row
invariant-loop-row l =
    InvFold l.setting l.text l.initial.work l.work l.initial.frames l.frames l.initial.diags l.diags l.n l.rows l.st l.at l.count l.row
