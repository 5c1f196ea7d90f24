use borrow.Author.Tests.{ne_eqb}
use Rattle.checks.proofs.Told.{silent}
use Rattle.checks.proofs.put.put_symbol.Goals as goal

pub returns-in-Constant-default : goal.returns-in-Constant-default
returns-in-Constant-default c = silent (rw c.in-Constant-default.is-0)

pub returns-in-Variable-Some : goal.returns-in-Variable-Some
returns-in-Variable-Some c = silent (rw (c.in-Variable-Some.is-0, c.in-Variable-Some.is-1, ne_eqb _ _ c.if-spot-eq0.false))
