use Rattle.slots.specs.Slots.{with_float}
use Rattle.slots.proofs.look.record_float.Goals as goal

pub returns : goal.returns
unfolding with_float
returns c = c.put_symbol.ensures
