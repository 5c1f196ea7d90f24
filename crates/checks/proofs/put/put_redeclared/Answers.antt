use Rattle.checks.proofs.Told.{silent}
use Rattle.checks.proofs.put.put_redeclared.Goals as goal

pub returns-in-None : goal.returns-in-None
returns-in-None c = silent (rw c.in-None.is)
