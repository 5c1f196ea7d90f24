use borrow.Author.Tests.{lt-ltb, le-ltb}
use Rattle.slots.specs.Slots.{nested_slot}
use Rattle.slots.proofs.look.nested_of.Goals as goal

pub returns-then-end-here : goal.returns-then-end-here
unfolding nested_slot
returns-then-end-here c = rw (← c.of_symbol-end.ensures, le-ltb _ _ c.if-end-here.true)

pub returns : goal.returns
unfolding nested_slot
returns c = rw (← c.of_symbol-end.ensures, lt-ltb _ _ c.if-end-here.false, ← c.of_symbol-at.ensures)
