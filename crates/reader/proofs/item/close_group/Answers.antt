use mathlib.Core.Path.{refl}
use Rattle.reader.proofs.item.close_group.Goals as goal

pub returns : goal.returns
returns c = (rw c.bucket.ensures, refl)
