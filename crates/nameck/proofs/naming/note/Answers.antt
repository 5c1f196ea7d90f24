use native.Mathlib.Omega.{arith}
use lib.ListN.{get_or}
use borrow.Author.Tests.{eq-eqb, ne_eqb}
use Rattle.area.specs.Cells.{word}
use Rattle.nameck.specs.Table.{noted}
use Rattle.nameck.proofs.naming.note.Goals as goal

pub returns-then-work-cell-eq0 : goal.returns-then-work-cell-eq0
unfolding noted word
returns-then-work-cell-eq0 c = rw (eq-eqb (get_or c.args.work.now c.args.cell 0) 0 (omega (arith, c.if-work-cell-eq0.true)))

pub returns-else-work-cell-eq0 : goal.returns-else-work-cell-eq0
unfolding noted word
returns-else-work-cell-eq0 c = rw (ne_eqb (get_or c.args.work.now c.args.cell 0) 0 (λ e. omega (arith, e, c.if-work-cell-eq0.false)))
