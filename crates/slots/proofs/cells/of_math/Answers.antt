use Rattle.area.specs.Cells.{word}
use Rattle.slots.proofs.cells.of_math.Goals as goal

pub returns : goal.returns
unfolding word
returns c = rw c.math.ensures
