use Rattle.paper.proofs.Options.{handed_on}
use Rattle.reader.proofs.item.read_one.Goals as goal

pub returns-in_err-x : goal.returns-in_err-x
returns-in_err-x c = rw (handed_on c.from_residual.result c.from_residual.ensures.1)
    (c.in_err-x.ensures.items_are c.requires.reached, c.in_err-x.ensures.line)
