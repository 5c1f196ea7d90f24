use Rattle.sight.proofs.Constants.{mark_step, mark_end}
use borrow.Author.Rules.{rules}
use Rattle.sight.proofs.mark_constants.Goals as goal

pub loop-a-preserved : goal.loop-a-preserved
loop-a-preserved c = mark_step c.loop-a.invariant c.requires (search rules) c.mark_constant.ensures

pub returns : goal.returns
returns c = mark_end c.loop-a.invariant (search rules)
