use native.Mathlib.Omega.{arith}
use Rattle.disjoint.proofs.Walks.{row_begin, row_can, row_few, row_step, row_end}
use borrow.Author.Rules.{rules}
use Rattle.disjoint.proofs.tally.mark_above.Goals as goal

pub loop-i-init : goal.loop-i-init
loop-i-init c = row_begin _ _ _ _ _

pub mark_one-requires : goal.mark_one-requires
mark_one-requires c = row_can c.requires c.loop-i.invariant c.of-tokens.ensures.first c.of-tokens.ensures.count (search rules) c.at.ensures

pub overflow_add-sum : goal.overflow_add-sum
overflow_add-sum c = let s = row_step c.requires c.loop-i.invariant c.of-tokens.ensures.first c.of-tokens.ensures.count _ (search rules) c.at.ensures c.from-sum.ensures c.mark_one.ensures in
    record { fits = omega (arith, row_few c.requires s c.of-tokens.ensures.first c.of-tokens.ensures.count) }

pub loop-i-preserved : goal.loop-i-preserved
loop-i-preserved c = row_step c.requires c.loop-i.invariant c.of-tokens.ensures.first c.of-tokens.ensures.count _ (search rules) c.at.ensures c.from-sum.ensures c.mark_one.ensures

pub returns : goal.returns
returns c = row_end c.requires c.loop-i.invariant c.of-tokens.ensures.first c.of-tokens.ensures.count (search rules)
