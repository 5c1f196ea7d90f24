use Rattle.nameck.specs.Links.{link}
use Rattle.nameck.proofs.intern.link_of.Goals as goal

pub returns-then-right : goal.returns-then-right
unfolding link
returns-then-right c = rw c.if-right.true c.symbol.ensures

pub returns-else-right : goal.returns-else-right
unfolding link
returns-else-right c = rw c.if-right.false c.name.ensures
