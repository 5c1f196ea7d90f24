use Rattle.checks.proofs.Ones.{dv_one}
use Rattle.checks.proofs.tokens.check_dv_token.Goals as goal

pub returns : goal.returns
returns c = dv_one c.requires.0.room c.requires.0.atom c.check_math_symbol-c.ensures c.see-k.ensures c.put_dv.ensures
