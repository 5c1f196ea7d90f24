use native.Mathlib.Omega.{arith}
use Rattle.scopeck.proofs.Whole.{rows_start, some_before, rows_step, rows_end}
use Rattle.scopeck.proofs.statements.check_rows.Goals as goal

pub loop-row-init : goal.loop-row-init
loop-row-init c = rows_start

pub check_statement-st-requires : goal.check_statement-st-requires
check_statement-st-requires c = some_before (omega arith) c.loop-row.invariant c.requires

pub loop-row-preserved : goal.loop-row-preserved
loop-row-preserved c = rows_step (omega arith) c.loop-row.invariant c.check_statement-st.ensures c.check_statement-st.auto.diags

pub returns : goal.returns
returns c = rows_end (omega arith) c.loop-row.invariant
