use Rattle.fold.proofs.Folds.{fold_start, fold_next, fold_over, fold_end}
use native.Mathlib.Omega.{arith}
use Rattle.fold.proofs.all.fold_rows.Goals as goal

pub loop-row-init : goal.loop-row-init
loop-row-init c = fold_start

pub returns-in_default : goal.returns-in_default
returns-in_default c = fold_over (omega arith) c.loop-row.invariant c.fold_statement.auto.diags c.in_default.ensures c.of_statement.ensures

pub loop-row-preserved : goal.loop-row-preserved
loop-row-preserved c = fold_next (omega arith) c.loop-row.invariant c.fold_statement.auto.diags c.in-Some.ensures c.from-count.ensures

pub returns : goal.returns
returns c = fold_end (omega arith) c.loop-row.invariant
