use native.Mathlib.Omega.{arith}
use Rattle.checks.proofs.Ones.{outer_one}
use Rattle.checks.proofs.tokens.check_outer.Goals as goal

pub put_redeclared-requires : goal.put_redeclared-requires
put_redeclared-requires c = omega (arith, c.check_clash-after.ensures.few, c.requires.place)

pub returns : goal.returns
returns c = outer_one c.check_clash-after.ensures c.lookup_symbol-g.ensures c.put_redeclared.ensures
