use native.Mathlib.Omega.{arith}
use Rattle.disjoint.proofs.Walks.{of_begin, of_can, of_few, of_step, of_end}
use borrow.Author.Rules.{rules}
use Rattle.disjoint.proofs.tally.count_pairs_of.Goals as goal

pub loop-k-init : goal.loop-k-init
loop-k-init c = of_begin _ _ _ _ _

pub mark_with-sum-requires : goal.mark_with-sum-requires
mark_with-sum-requires c = of_can c.requires c.loop-k.invariant (search rules) c.of_statement.ensures

pub overflow_add-sum : goal.overflow_add-sum
overflow_add-sum c = let s = of_step c.requires c.loop-k.invariant (search rules) c.of_statement.ensures c.mark_with-sum.ensures in
    record { fits = omega (arith, of_few c.requires s) }

pub loop-k-preserved : goal.loop-k-preserved
loop-k-preserved c = of_step c.requires c.loop-k.invariant (search rules) c.of_statement.ensures c.mark_with-sum.ensures

pub returns : goal.returns
returns c = of_end c.requires c.loop-k.invariant (search rules)
