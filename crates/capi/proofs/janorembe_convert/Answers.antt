use Rattle.capi.proofs.Promises.{changed}
use Rattle.capi.proofs.janorembe_convert.Goals as goal

pub returns : goal.returns
returns c = changed c.convert.ensures c.tell_converted.ensures
