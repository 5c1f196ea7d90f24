use Rattle.capi.proofs.Promises.{gauged}
use Rattle.capi.proofs.janorembe_measure.Goals as goal

pub returns : goal.returns
returns c = gauged c.measure.ensures c.setting_of.ensures c.tell.ensures
