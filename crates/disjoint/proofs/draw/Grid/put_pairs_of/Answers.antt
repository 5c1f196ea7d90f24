use Rattle.disjoint.proofs.Draws.{row_drawn_begin, row_drawn_can, row_drawn_step, row_drawn_end}
use borrow.Author.Rules.{rules}
use Rattle.disjoint.proofs.draw.Grid.put_pairs_of.Goals as goal

pub loop-i-init : goal.loop-i-init
loop-i-init c = row_drawn_begin _ _ _ _ _ _

pub put_pairs_at-a-requires : goal.put_pairs_at-a-requires
put_pairs_at-a-requires c = row_drawn_can c.loop-i.invariant c.of-tokens.ensures.count c.requires (search rules)

pub loop-i-preserved : goal.loop-i-preserved
loop-i-preserved c = row_drawn_step c.loop-i.invariant c.of-tokens.ensures.count (search rules) c.put_pairs_at-a.ensures

pub shape_of-buf : goal.shape_of-buf
shape_of-buf c = c.loop-i.invariant.drew.len

pub returns : goal.returns
returns c = row_drawn_end c.loop-i.invariant c.of-tokens.ensures.count (search rules)
