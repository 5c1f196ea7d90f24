use Rattle.checks.proofs.Told.{silent}
use Rattle.checks.proofs.put.put_variable.Goals as goal

pub returns-in-Variable : goal.returns-in-Variable
returns-in-Variable c = silent (rw c.in-Variable.is)
