use Rattle.slots.specs.Slots.{with_nested}
use Rattle.slots.proofs.look.record_nested.Goals as goal

pub returns : goal.returns
unfolding with_nested
returns c = rw (c.put_symbol-2.ensures, c.put_symbol.ensures)
