use Rattle.checks.proofs.Told.{silent}
use Rattle.checks.proofs.put.put_typecode.Goals as goal

pub returns-in-Constant : goal.returns-in-Constant
returns-in-Constant c = silent (rw c.in-Constant.is)
