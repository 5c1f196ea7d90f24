use Rattle.area.specs.Cells.{word}
use Rattle.slots.proofs.cells.of_symbol.Goals as goal

pub returns : goal.returns
unfolding word
returns c = rw c.symbol.ensures
