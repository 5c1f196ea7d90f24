use Rattle.capi.proofs.Promises.{written}
use Rattle.capi.proofs.janorembe_write.Goals as goal

pub returns : goal.returns
returns c = written c.write.ensures c.setting_of-setting.ensures c.tell.ensures
