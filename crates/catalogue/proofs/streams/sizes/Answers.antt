use Rattle.catalogue.proofs.Numbers.{sizes_ok, sizes_err}
use Rattle.catalogue.proofs.streams.sizes.Goals as goal

pub returns-in-Ok : goal.returns-in-Ok
returns-in-Ok c = sizes_ok c.in-Ok.ensures

pub returns-in-Err : goal.returns-in-Err
returns-in-Err c = rw c.refused.ensures (sizes_err c.in-Err.ensures)
