use Rattle.unify.specs.Bound.{with_start}
use Rattle.unify.proofs.bind.put_start.Goals as goal

pub returns : goal.returns
unfolding with_start
returns c = rw (c.put_symbol-2.ensures, c.put_symbol.ensures)
