use Rattle.slots.proofs.cells.put_symbol.Goals as goal

pub returns : goal.returns
returns c = rw c.symbol.ensures
