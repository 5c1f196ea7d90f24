use Rattle.checks.proofs.Told.{silent}
use Rattle.checks.proofs.put.put_dv.Goals as goal

pub returns-in-Variable-None : goal.returns-in-Variable-None
returns-in-Variable-None c = silent (rw (c.in-Variable-None.is-0, c.in-Variable-None.is-1))
