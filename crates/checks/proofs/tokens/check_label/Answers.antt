use Rattle.checks.proofs.Ones.{label_one}
use Rattle.checks.proofs.tokens.check_label.Goals as goal

pub returns : goal.returns
returns c = label_one c.lookup_label-owner.ensures c.put_label.ensures
