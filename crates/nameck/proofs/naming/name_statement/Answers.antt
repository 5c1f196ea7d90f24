use mathlib.Core.Path.{refl}
use native.Mathlib.Omega.{arith}
use Rattle.nameck.proofs.Whole.{statement_label, statement_order, statement_within, statement_math, statement_named}
use Rattle.nameck.proofs.naming.name_statement.Goals as goal

pub name_label-k-requires : goal.name_label-k-requires
name_label-k-requires c = statement_label c.requires

pub overflow_cast-from : goal.overflow_cast-from
overflow_cast-from c = omega (arith, c.slice_known-5-1.given c.statement-3.result)

pub overflow_cast-to : goal.overflow_cast-to
overflow_cast-to c = omega (arith, c.slice_known-6-1.given c.statement-4.result)

pub slice_bounds-name_math-count : goal.slice_bounds-name_math-count
slice_bounds-name_math-count c = statement_order c.name_label-k.ensures c.statement-3.ensures c.statement-4.ensures c.requires

pub slice_bounds-name_math-start : goal.slice_bounds-name_math-start
slice_bounds-name_math-start c = statement_order c.name_label-k.ensures c.statement-3.ensures c.statement-4.ensures c.requires

pub slice_bounds-name_math-end : goal.slice_bounds-name_math-end
slice_bounds-name_math-end c = statement_within c.name_label-k.ensures c.statement-4.ensures c.requires

pub name_math-requires : goal.name_math-requires
name_math-requires c = statement_math c.name_label-k.ensures c.statement.ensures c.statement-2.ensures c.declaring_kind-declares.ensures c.statement-3.ensures c.statement-4.ensures refl c.requires

pub returns : goal.returns
returns c = statement_named c.name_label-k.ensures c.statement.ensures c.statement-2.ensures c.declaring_kind-declares.ensures c.statement-3.ensures c.statement-4.ensures refl c.name_math.ensures
