use Rattle.disjoint.proofs.Draws.{all_drawn_begin, all_drawn_can, all_drawn_step, all_drawn_end}
use borrow.Author.Rules.{rules}
use Rattle.disjoint.proofs.draw.Grid.put_pairs.Goals as goal

pub loop-k-init : goal.loop-k-init
loop-k-init c = all_drawn_begin _ _ _ _ _ _

pub put_pairs_of-a-requires : goal.put_pairs_of-a-requires
put_pairs_of-a-requires c = all_drawn_can c.loop-k.invariant c.requires (search rules) c.of_statement.ensures

pub loop-k-preserved : goal.loop-k-preserved
loop-k-preserved c = all_drawn_step c.loop-k.invariant (search rules) c.of_statement.ensures c.put_pairs_of-a.ensures

pub returns : goal.returns
returns c = all_drawn_end c.loop-k.invariant (search rules)
