use Rattle.fold.proofs.Folds.{some_blank, whole_names, folds_all}
use Rattle.fold.proofs.all.fold_all.Goals as goal

pub forget_all-requires : goal.forget_all-requires
forget_all-requires c = whole_names c.requires

pub fold_rows-requires : goal.fold_rows-requires
fold_rows-requires c = some_blank c.forget_all.ensures c.requires

pub returns : goal.returns
returns c = folds_all c.forget_all.ensures c.fold_rows.ensures
