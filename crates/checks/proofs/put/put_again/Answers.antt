use borrow.Author.Tests.{eq-eqb}
use Rattle.checks.proofs.Told.{silent}
use Rattle.checks.proofs.put.put_again.Goals as goal

pub returns-then-p-offset : goal.returns-then-p-offset
returns-then-p-offset c = silent (rw (eq-eqb _ _ c.if-p-offset.true))
