use mathlib.Core.Path.{refl, ◌∙◌}
use native.Mathlib.Omega.{arith}
use lib.ListN.{length-set}
use Rattle.nameck.proofs.Step.{some_row, some_from, some_early, some_hash, some_token, token_atom, token_named}
use Rattle.nameck.proofs.naming.name_token.Goals as goal

pub math-requires : goal.math-requires
math-requires c = let r = some_row refl c.requires in (omega (arith, c.requires.holds.progress.spans.small), omega (arith, r, c.requires.holds.progress.spans.small))

pub offset_bounds-work-math : goal.offset_bounds-work-math
offset_bounds-work-math c = let r = some_row c.math.ensures c.requires in omega (arith, r, c.math.ensures, c.requires.holds.progress.spans.small)

pub bounds-work-math : goal.bounds-work-math
bounds-work-math c = let r = some_row c.math.ensures c.requires in omega (arith, r, c.math.ensures, c.requires.holds.progress.spans.room)

pub overflow_cast-at : goal.overflow_cast-at
overflow_cast-at c = omega (arith, some_early c.math.ensures c.requires)

pub overflow_sub-at : goal.overflow_sub-at
overflow_sub-at c = some_from c.math.ensures c.requires

pub overflow_add-from : goal.overflow_add-from
overflow_add-from c = let k = some_token c.math.ensures c.hash_token-x.ensures c.requires in omega (arith, k.fits, k.spans.short)

pub intern-got-requires : goal.intern-got-requires
intern-got-requires c = (
  some_token c.math.ensures c.hash_token-x.ensures c.requires,
  some_hash c.math.ensures c.hash_token-x.ensures c.requires,
)

pub math-requires-2 : goal.math-requires-2
math-requires-2 c = let r = some_row refl c.requires in (omega (arith, c.requires.holds.progress.spans.small), omega (arith, r, c.requires.holds.progress.spans.small))

pub offset_bounds-work-math-2 : goal.offset_bounds-work-math-2
offset_bounds-work-math-2 c = let r = some_row c.math-2.ensures c.requires in omega (arith, r, c.math-2.ensures, c.requires.holds.progress.spans.small)

pub bounds-work-math-2 : goal.bounds-work-math-2
bounds-work-math-2 c = let r = some_row c.math-2.ensures c.requires in omega (arith, r, c.math-2.ensures, c.requires.holds.progress.spans.room, c.intern-got.auto.work)

pub overflow_cast-at-2 : goal.overflow_cast-at-2
overflow_cast-at-2 c = omega (arith, some_early c.math.ensures c.requires)

pub note_global-requires : goal.note_global-requires
note_global-requires c = let a = token_atom c.math.ensures c.hash_token-x.ensures c.requires c.intern-got.ensures in
    let h = c.requires.holds in
    (omega (arith, h.progress.spans.small), a, simp length-set (omega (arith, h.progress.spans.room, c.intern-got.auto.work)), some_early c.math.ensures c.requires)

pub shape_of-work : goal.shape_of-work
shape_of-work c = c.note_global.auto.work ∙ simp length-set c.intern-got.auto.work

pub returns : goal.returns
returns c = token_named c.math.ensures c.hash_token-x.ensures c.intern-got.ensures c.math-2.ensures c.note_global.ensures
