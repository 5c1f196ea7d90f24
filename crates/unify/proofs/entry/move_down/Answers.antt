use Rattle.unify.proofs.Moves.{moved_within}
use Rattle.unify.proofs.entry.move_down.Goals as goal

pub returns : goal.returns
returns c = rw c.copy_within.ensures.after (moved_within c.args.stack.now c.args.base c.args.from c.args.to c.requires.0 c.requires.1 c.requires.2)
