use mathlib.Core.Path.{◌≡◌, ap, ◌∙◌}
use Prim.Native.Nat.{ℕ, ◌+◌, ◌-◌}
use native.Mathlib.Omega.{arith}
use Rattle.paper.specs.Layout.{times}
use Rattle.layout.specs.Cuts.{left}
use Rattle.layout.proofs.Left.{some_left, none_left, times_none, times_short, times_more}
use Rattle.layout.proofs.cut.after_times.Goals as goal

pub loop-init : goal.loop-init
loop-init g c =
    let e : c.args.count - 0 ≡ c.args.count = omega arith in
    (c.requires, λ f h. ap (λ (n : ℕ). left (times n f c.args.bytes.now)) e)

pub returns-in_err-rest : goal.returns-in_err-rest
returns-in_err-rest g c f h =
    rw c.from_residual.ensures
    (times_short (c.args.count - c.loop.counter) f c.loop.rest.now (omega arith)
    (none_left (f c.loop.rest.now) (h c.loop.rest c.after.result c.after.ensures) c.in_err-rest.was)
    ∙ c.loop.invariant.1 f h)

pub loop-preserved : goal.loop-preserved
loop-preserved g c =
    let n = c.args.count - c.loop.counter in
    let e : c.args.count - (c.loop.counter + 1) ≡ n - 1 = omega arith in (
      c.loop.invariant.0,
      λ f h.
          rw e
          (times_more n f c.loop.rest.now (omega arith)
          (some_left (f c.loop.rest.now) (h c.loop.rest c.after.result c.after.ensures) c.in_ok-rest.was)
          ∙ c.loop.invariant.1 f h),
    )

pub returns : goal.returns
returns g c f h = times_none (c.args.count - c.loop.counter) f c.loop.rest.now (omega arith) ∙ c.loop.invariant.1 f h
