use native.Mathlib.Omega.{arith}
use lib.ListN.{length-set}
use Rattle.nameck.proofs.Added.{added_length, row_added}
use borrow.Author.Rules.{rules}
use Rattle.nameck.proofs.intern.add_name.Goals as goal

pub bounds-work-name-2 : goal.bounds-work-name-2
bounds-work-name-2 c = simp length-set (search rules)

pub bounds-work-name-3 : goal.bounds-work-name-3
bounds-work-name-3 c = simp length-set (search rules)

pub clear_part-requires : goal.clear_part-requires
clear_part-requires c = (omega arith, simp length-set (search rules))

pub shape_of-work : goal.shape_of-work
shape_of-work c = added_length {w = c.args.work.now} {start = c.args.start} {stop = c.args.stop} (row_added c.name.ensures c.name-2.ensures c.name-3.ensures c.symbol-first.ensures c.clear_part.ensures)

pub returns : goal.returns
returns c = row_added c.name.ensures c.name-2.ensures c.name-3.ensures c.symbol-first.ensures c.clear_part.ensures
