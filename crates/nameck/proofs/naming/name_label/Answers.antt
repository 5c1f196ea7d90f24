use mathlib.Core.Path.{◌∙◌}
use native.Mathlib.Omega.{arith}
use lib.ListN.{length-set}
use Rattle.nameck.proofs.Step.{label_none, some_label, label_atom, label_named}
use Rattle.nameck.proofs.naming.name_label.Goals as goal

pub returns-then-work-statement-lt4 : goal.returns-then-work-statement-lt4
returns-then-work-statement-lt4 c = label_none c.statement.ensures c.if-work-statement-lt4.true

pub overflow_cast-at : goal.overflow_cast-at
overflow_cast-at c = omega (arith, c.slice_known-3-1.given c.statement-2.result)

pub overflow_cast-stop : goal.overflow_cast-stop
overflow_cast-stop c = omega (arith, c.slice_known-4-1.given c.statement-3.result)

pub overflow_add-stop : goal.overflow_add-stop
overflow_add-stop c = let k = some_label c.statement.ensures c.statement-2.ensures c.statement-3.ensures (λ z. omega (arith, c.if-work-statement-lt4.false)) c.requires in omega (arith, k.fits, k.spans.short)

pub slice_bounds-hash_of-end : goal.slice_bounds-hash_of-end
slice_bounds-hash_of-end c = let k = some_label c.statement.ensures c.statement-2.ensures c.statement-3.ensures (λ z. omega (arith, c.if-work-statement-lt4.false)) c.requires in k.fits

pub intern-got-requires : goal.intern-got-requires
intern-got-requires c = (
  some_label c.statement.ensures c.statement-2.ensures c.statement-3.ensures
      (λ z. omega (arith, c.if-work-statement-lt4.false)) c.requires,
  c.hash_of-hashed.ensures.0,
)

pub overflow_cast-at-2 : goal.overflow_cast-at-2
overflow_cast-at-2 c = omega (arith, c.slice_known-3-1.given c.statement-2.result)

pub overflow_add-at : goal.overflow_add-at
overflow_add-at c = let k = some_label c.statement.ensures c.statement-2.ensures c.statement-3.ensures (λ z. omega (arith, c.if-work-statement-lt4.false)) c.requires in omega (arith, k.order, k.fits, k.spans.short)

pub note-requires : goal.note-requires
note-requires c = let k = label_atom c.statement.ensures c.statement-2.ensures c.statement-3.ensures (λ z. omega (arith, c.if-work-statement-lt4.false)) c.requires c.intern-got.ensures in
    simp length-set (omega (arith, k, c.symbol.ensures, c.requires.holds.progress.spans.room, c.intern-got.auto.work))

pub shape_of-work : goal.shape_of-work
shape_of-work c = c.note.auto.work ∙ simp length-set c.intern-got.auto.work

pub returns : goal.returns
returns c = label_named c.statement.ensures c.statement-2.ensures c.statement-3.ensures (λ z. omega (arith, c.if-work-statement-lt4.false)) c.intern-got.ensures c.statement-4.ensures c.symbol.ensures c.note.ensures
