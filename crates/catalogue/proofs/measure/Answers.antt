use native.Mathlib.Omega.{arith}
use Rattle.std.proofs.lemmas.Grind.{common_steps}
use Rattle.paper.proofs.Options.{handed_on}
use Rattle.fold.proofs.Starts.{read_held}
use Rattle.catalogue.proofs.Promises.{unmeasured, measured}
use Rattle.catalogue.proofs.measure.Goals as goal

pub measure_read-needs-requires : goal.measure_read-needs-requires
measure_read-needs-requires c = read_held c.args.work.now _ c.in_ok-read.ensures

pub returns-in_err-read : goal.returns-in_err-read
returns-in_err-read c =
    rw (handed_on c.from_residual.result c.from_residual.ensures.1) (unmeasured c.args.work.now _ c.in_err-read.ensures)

pub returns : goal.returns
returns c =
    measured c.args.work.now _ c.in_ok-read.ensures c.measure_read-needs.ensures
    (grind (arith, common_steps))
