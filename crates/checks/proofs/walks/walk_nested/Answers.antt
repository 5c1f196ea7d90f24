use Rattle.checks.proofs.OverPart.{nested_start, nested_step, nested_end}
use Rattle.checks.proofs.walks.walk_nested.Goals as goal

pub loop-x-init : goal.loop-x-init
loop-x-init c =
    let o = c.of-x-items.ensures in
    rw (c.into_iter-x-iterator.ensures.into_iter_gives, o.1) (nested_start, o.0)

pub loop-x-preserved : goal.loop-x-preserved
loop-x-preserved c =
    let k = rw c.loop-x.invariant.1 at c.in-Some.ensures.steps in (
      rw k.next
          (nested_step k (rw k.index at c.of_math.ensures) (rw (c.new-spot.ensures, k.index) at c.check_nested-p.ensures)
          c.check_nested-p.auto.diags c.loop-x.invariant.0),
      k.same,
    )

pub returns : goal.returns
returns c = nested_end (rw c.loop-x.invariant.1 at c.in-None.ensures.steps) c.loop-x.invariant.0
