use Rattle.checks.proofs.OverRows.{dv_start, dv_step, dv_end}
use Rattle.checks.proofs.walks.walk_dv.Goals as goal

pub loop-x-init : goal.loop-x-init
loop-x-init c =
    let o = c.of-x-items.ensures in
    rw (c.into_iter-x-iterator.ensures.into_iter_gives, o.1) (dv_start, o.0)

pub loop-x-preserved : goal.loop-x-preserved
loop-x-preserved c =
    let k = rw c.loop-x.invariant.1 at c.in-Some.ensures.steps in (
      rw k.next
          (dv_step k.inside (rw k.index at c.of_math.ensures) (rw (c.new.ensures, k.index) at c.check_dv_token-p.ensures)
          c.check_dv_token-p.auto.diags c.loop-x.invariant.0),
      k.same,
    )

pub returns : goal.returns
returns c = dv_end (rw c.loop-x.invariant.1 at c.in-None.ensures.steps) c.loop-x.invariant.0
