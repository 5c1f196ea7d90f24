use Rattle.area.specs.Cells.{word}
use Rattle.disjoint.proofs.tally.atom_of.Goals as goal

pub returns : goal.returns
unfolding word
returns c = rw c.bucket.ensures
