use Rattle.checks.proofs.Ones.{eap_one}
use Rattle.checks.proofs.tokens.check_eap_token.Goals as goal

pub returns : goal.returns
returns c = eap_one c.check_math_symbol-c.ensures c.lookup_float-f.ensures c.put_symbol.ensures
