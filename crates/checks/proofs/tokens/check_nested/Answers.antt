use native.Mathlib.Omega.{arith}
use Rattle.checks.proofs.Ones.{nested_against, nested_recorded}
use Rattle.checks.proofs.tokens.check_nested.Goals as goal

pub put_breach-requires : goal.put_breach-requires
put_breach-requires c = omega (arith, c.check_clash-after.ensures.few, c.requires.place)

pub returns-in-Some : goal.returns-in-Some
returns-in-Some c = nested_against c.check_clash-after.ensures (rw c.in-Some.is at c.verdict_of.ensures) c.put_breach.ensures

pub returns : goal.returns
returns c =
    nested_recorded c.requires.room c.requires.atom c.check_clash-after.ensures (rw c.in_default.is at c.verdict_of.ensures)
    c.record_nested.ensures
