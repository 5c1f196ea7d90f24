use Rattle.disjoint.proofs.Walks.{count_clear, count_done}
use Rattle.disjoint.proofs.tally.pair_count.Goals as goal

pub clear_marks-requires : goal.clear_marks-requires
clear_marks-requires c = count_clear c.requires c.count_pairs-sum.ensures

pub returns : goal.returns
returns c = count_done c.requires c.count_pairs-sum.ensures c.clear_marks.ensures
