use Rattle.disjoint.proofs.Walks.{clear_step, clear_done}
use borrow.Author.Rules.{rules}
use Rattle.disjoint.proofs.tally.clear_marks.Goals as goal

pub loop-k-preserved : goal.loop-k-preserved
loop-k-preserved c = clear_step c.requires c.loop-k.invariant (search rules) c.atom_of-atom.ensures c.put_symbol.ensures

pub returns : goal.returns
returns c = clear_done c.requires c.loop-k.invariant (search rules)
