use native.Mathlib.Omega.{arith}
use Rattle.disjoint.proofs.Walks.{token_here}
use Rattle.disjoint.proofs.Draws.{at_begin, at_beyond, at_can, at_step, at_end}
use borrow.Author.Rules.{rules}
use Rattle.disjoint.proofs.draw.Grid.put_pairs_at.Goals as goal

pub number-x-requires : goal.number-x-requires
number-x-requires c = (c.requires.walk.buckets.room, token_here _ c.requires.walk.row c.of-tokens.ensures.first c.of-tokens.ensures.count (omega (arith, c.of-tokens.ensures.count, c.requires.here)) c.at.ensures)

pub returns-then-self-x : goal.returns-then-self-x
returns-then-self-x c = at_beyond _ _ _ _ _ _ _ c.requires.here c.of-tokens.ensures.first (rw c.at.ensures at c.number-x.ensures) c.if-self-x.true

pub loop-j-init : goal.loop-j-init
loop-j-init c = at_begin _ _ _ _ _ _ _ c.requires.here c.of-tokens.ensures.first (rw c.at.ensures at c.number-x.ensures)

pub number-y-requires : goal.number-y-requires
number-y-requires c = (c.requires.walk.buckets.room, token_here _ c.requires.walk.row c.of-tokens.ensures.first c.of-tokens.ensures.count (search rules) c.at-in-loop-j.ensures)

pub put_pair-a-requires : goal.put_pair-a-requires
put_pair-a-requires c = at_can c.loop-j.invariant c.of-tokens.ensures.first c.of-tokens.ensures.count c.requires.draw (search rules) (rw c.at-in-loop-j.ensures at c.number-y.ensures)

pub loop-j-preserved : goal.loop-j-preserved
loop-j-preserved c = at_step c.loop-j.invariant c.of-tokens.ensures.first c.of-tokens.ensures.count (search rules) (rw c.at-in-loop-j.ensures at c.number-y.ensures) c.put_pair-a.ensures

pub shape_of-buf : goal.shape_of-buf
shape_of-buf c = c.loop-j.invariant.drew.len

pub returns : goal.returns
returns c = at_end c.loop-j.invariant c.of-tokens.ensures.count (search rules)
