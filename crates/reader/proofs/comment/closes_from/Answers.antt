use mathlib.Core.Path.{sym, ap, ◌∙◌}
use native.Mathlib.Nat.{le_refl}
use native.Mathlib.Omega.{arith}
use Rattle.reader.specs.Dollar.{found}
use Rattle.reader.proofs.Dollars.{loop_none, loop_some, loop_on}
use Rattle.reader.proofs.comment.closes_from.Goals as goal

pub returns-then-closes_at : goal.returns-then-closes_at
returns-then-closes_at c = let d = c.in-Some.ensures in
    sym (ap found (sym c.loop-k.invariant.0 ∙ loop_some _ _ c.loop-k.invariant.1 d.0 d.1 (sym c.closes_at.ensures ∙ c.if-closes_at.true)))

pub loop-k-preserved : goal.loop-k-preserved
loop-k-preserved c = let d = c.in-Some.ensures in (
  loop_on _ _ c.loop-k.invariant.1 d.0 d.1 (sym c.closes_at.ensures ∙ c.if-closes_at.false) ∙ c.loop-k.invariant.0,
  omega (arith, c.loop-k.invariant.1, d.0.from),
  omega (arith, d.1),
)

pub returns : goal.returns
returns c = sym (ap found (sym c.loop-k.invariant.0 ∙ loop_none _ _ c.loop-k.invariant.1 c.in_default.ensures (le_refl _)))
