use mathlib.Core.Path.{sym, ◌∙◌}
use native.Mathlib.Nat.{le_refl}
use native.Mathlib.Omega.{arith}
use Rattle.reader.proofs.Marks.{mark_end, mark_here, mark_next}
use Rattle.reader.proofs.comment.next_mark.Goals as goal

pub returns-then-mark_at : goal.returns-then-mark_at
returns-then-mark_at c = let d = c.in-Some.ensures in
    (mark_here c.loop-k.invariant.0 c.loop-k.invariant.2 d.0 (sym c.mark_at.ensures ∙ c.if-mark_at.true), d.1)

pub loop-k-preserved : goal.loop-k-preserved
loop-k-preserved c = let d = c.in-Some.ensures in (
  omega (arith, c.loop-k.invariant.0, d.0.from),
  omega (arith, d.1),
  mark_next c.loop-k.invariant.0 c.loop-k.invariant.2 d.0 (sym c.mark_at.ensures ∙ c.if-mark_at.false),
)

pub returns : goal.returns
returns c = mark_end c.loop-k.invariant.0 c.loop-k.invariant.2 c.in_default.ensures (le_refl _)
