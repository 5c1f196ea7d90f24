use mathlib.Core.Path.{◌≡◌, sym, ap, ◌∙◌}
use mathlib.Core.Bool.{Bool, true}
use mathlib.Core.List.{List}
use Prim.Native.Nat.{ℕ}
use native.Mathlib.Omega.{arith}
use lib.Dec.{leb}
use lib.ListN.{set}
use Rattle.paper.specs.Base.{and}
use Rattle.token.specs.Words.{Read}
use Rattle.token.specs.declared.cursor.Span.{Span}
use Rattle.token.specs.declared.cursor.Cursor.{Cursor}
use Rattle.reader.specs.Passed.{Shows}
use Rattle.reader.proofs.Passes.{passed_few}
use Rattle.reader.proofs.Dollars.{and_both}
use Rattle.reader.proofs.Runs.{room_fits, stretch_start, stretch_more}
use borrow.Author.Tests.{leb-true}
use Rattle.reader.proofs.Looks.{took, look_math}
use Rattle.reader.proofs.run.read_stretch.Goals as goal

-- a token that the run takes is a math token, and shows
shows : {t : List ℕ} {i : ℕ} {x : Span} {c : Cursor} (b : Bool) → Read t i x c → and (leb 3 x.least) b ≡ true → Shows t i x c
shows {x = x} b r e = look_math r (leb-true 3 x.least (and_both (leb 3 x.least) b e).0)

pub loop-x-init : goal.loop-x-init
loop-x-init c = stretch_start _ _ c.requires.0 c.requires.1

pub next-requires : goal.next-requires
next-requires c = c.loop-x.invariant.lined

pub shape_of-work-in_default : goal.shape_of-work-in_default
shape_of-work-in_default c = c.loop-x.invariant.len

pub returns-in_default : goal.returns-in_default
returns-in_default c = c.loop-x.invariant

pub shape_of-work-then-not-takes : goal.shape_of-work-then-not-takes
shape_of-work-then-not-takes c = c.loop-x.invariant.len

pub returns-then-not-takes : goal.returns-then-not-takes
returns-then-not-takes c = c.loop-x.invariant

pub overflow_add-first : goal.overflow_add-first
overflow_add-first c = omega (arith, room_fits c.loop-x.invariant.room (shows _ (took c.in-Some.is c.next.ensures) (sym c.takes.ensures ∙ c.if-not-takes.false)), c.loop-x.invariant.room.small)

pub math-requires : goal.math-requires
math-requires c = (omega (arith, c.loop-x.invariant.room.small), omega (arith, room_fits c.loop-x.invariant.room (shows _ (took c.in-Some.is c.next.ensures) (sym c.takes.ensures ∙ c.if-not-takes.false)), c.loop-x.invariant.room.small))

pub overflow_cast-work : goal.overflow_cast-work
overflow_cast-work c = omega (arith, (shows _ (took c.in-Some.is c.next.ensures) (sym c.takes.ensures ∙ c.if-not-takes.false)).whole.some, (shows _ (took c.in-Some.is c.next.ensures) (sym c.takes.ensures ∙ c.if-not-takes.false)).whole.within, c.loop-x.invariant.room.short)

pub offset_bounds-work-math : goal.offset_bounds-work-math
offset_bounds-work-math c = omega (arith, room_fits c.loop-x.invariant.room (shows _ (took c.in-Some.is c.next.ensures) (sym c.takes.ensures ∙ c.if-not-takes.false)), c.loop-x.invariant.room.small, c.math.ensures)

pub bounds-work-math : goal.bounds-work-math
bounds-work-math c = omega (arith, room_fits c.loop-x.invariant.room (shows _ (took c.in-Some.is c.next.ensures) (sym c.takes.ensures ∙ c.if-not-takes.false)), c.loop-x.invariant.room.room, c.math.ensures)

pub overflow_add-count : goal.overflow_add-count
overflow_add-count c = omega (arith, room_fits c.loop-x.invariant.room (shows _ (took c.in-Some.is c.next.ensures) (sym c.takes.ensures ∙ c.if-not-takes.false)), c.loop-x.invariant.room.small)

pub loop-x-smaller : goal.loop-x-smaller
loop-x-smaller c = omega (arith, passed_few (shows _ (took c.in-Some.is c.next.ensures) (sym c.takes.ensures ∙ c.if-not-takes.false)).passed)

pub loop-x-preserved : goal.loop-x-preserved
loop-x-preserved c = stretch_more c.loop-x.invariant (shows _ (took c.in-Some.is c.next.ensures) (sym c.takes.ensures ∙ c.if-not-takes.false)) (sym c.takes.ensures ∙ c.if-not-takes.false) (ap (λ (i : ℕ). set c.loop-x.work i c.in-Some.x.start) c.math.ensures)
