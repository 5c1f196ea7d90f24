use Rattle.checks.proofs.Ones.{clash_one}
use Rattle.checks.proofs.tokens.check_clash.Goals as goal

pub returns : goal.returns
returns c = clash_one c.lookup_label-owner.ensures c.put_found.ensures
