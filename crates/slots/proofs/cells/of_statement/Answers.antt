use Rattle.area.specs.Cells.{word}
use Rattle.slots.proofs.cells.of_statement.Goals as goal

pub returns : goal.returns
unfolding word
returns c = rw c.statement.ensures
