use Rattle.slots.proofs.cells.put_statement.Goals as goal

pub returns : goal.returns
returns c = rw c.statement.ensures
