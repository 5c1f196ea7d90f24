use native.Mathlib.Omega.{arith}
use Rattle.checks.proofs.OverPart.{two_start, two_more, two_end}
use Rattle.checks.proofs.walks.float_tokens.Goals as goal

pub loop-x-init : goal.loop-x-init
loop-x-init c =
    let o = c.of-x-items.ensures in
    rw (c.into_iter-x-iterator.ensures.into_iter_gives, o.1) (two_start, omega arith, o.0)

pub loop-x-preserved : goal.loop-x-preserved
loop-x-preserved c =
    let k = rw c.loop-x.invariant.2 at c.in-Some.ensures.steps in
    (rw k.next (two_more c.loop-x.invariant.0 (rw k.index at c.of_math.ensures)), omega (arith, k.inside, k.next), k.same)

pub returns : goal.returns
returns c = two_end (rw c.loop-x.invariant.2 at c.in-None.ensures.steps) c.loop-x.invariant.1 c.loop-x.invariant.0
