use Rattle.disjoint.proofs.Walks.{all_begin, all_can, all_step}
use borrow.Author.Rules.{rules}
use Rattle.disjoint.proofs.tally.count_pairs.Goals as goal

pub loop-u-init : goal.loop-u-init
loop-u-init c = all_begin c.requires

pub count_pairs_of-sum-requires : goal.count_pairs_of-sum-requires
count_pairs_of-sum-requires c = all_can c.requires c.loop-u.invariant (search rules)

pub loop-u-preserved : goal.loop-u-preserved
loop-u-preserved c = all_step c.requires c.loop-u.invariant (search rules) c.count_pairs_of-sum.ensures
