use Rattle.unify.specs.Bound.{start_of}
use Rattle.unify.proofs.bind.start_of.Goals as goal

pub returns : goal.returns
unfolding start_of
returns c = rw (c.of_symbol-low.ensures, c.of_symbol-high.ensures)
