use Rattle.scopeck.proofs.Whole.{names_fit, some_blank, checks_all}
use Rattle.scopeck.proofs.statements.scope_check_all.Goals as goal

pub forget_all-requires : goal.forget_all-requires
forget_all-requires c = names_fit c.requires

pub check_rows-requires : goal.check_rows-requires
check_rows-requires c = some_blank c.forget_all.ensures c.requires

pub returns : goal.returns
returns c = checks_all c.forget_all.ensures c.check_rows.ensures
