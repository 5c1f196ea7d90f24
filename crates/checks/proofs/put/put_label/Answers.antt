use borrow.Author.Tests.{eq-eqb}
use Rattle.checks.proofs.Told.{silent}
use Rattle.checks.proofs.put.put_label.Goals as goal

pub returns-in-Some : goal.returns-in-Some
returns-in-Some c = silent (rw (c.in-Some.is, eq-eqb _ _ c.if-o-s.true))

pub returns-in-None : goal.returns-in-None
returns-in-None c = silent (rw c.in-None.is)
