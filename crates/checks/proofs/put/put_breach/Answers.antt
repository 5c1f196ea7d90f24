use Rattle.checks.proofs.Told.{told}
use Rattle.checks.proofs.put.put_breach.Goals as goal

pub returns : goal.returns
returns c = told _ _ _ _ c.put_diag.ensures (rw c.into.ensures)
