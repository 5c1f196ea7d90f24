use mathlib.Core.Path.{sym, ap, ◌∙◌}
use Prim.Native.Nat.{ℕ}
use native.Mathlib.Omega.{arith}
use lib.ListN.{set}
use Rattle.reader.proofs.Passes.{passed_few}
use Rattle.reader.proofs.Runs.{running_start, running_room, running_more}
use Rattle.reader.proofs.Looks.{shown}
use Rattle.reader.proofs.run.read_run.Goals as goal

pub loop-x-init : goal.loop-x-init
loop-x-init c = (running_start _ c.requires.0, c.requires.1)

pub read_stretch-plain-requires : goal.read_stretch-plain-requires
read_stretch-plain-requires c = (running_room c.requires.0 c.loop-x.invariant.0, c.loop-x.invariant.1)

pub loop-x-smaller : goal.loop-x-smaller
loop-x-smaller c = let s = shown c.in-Ok-Some.is (rw c.in-Ok-Some.is at c.in-Ok-Some.field-0-is) c.next_visible-after.ensures in
    omega (arith, passed_few s.passed, c.read_stretch-plain.ensures.less)

pub loop-x-preserved : goal.loop-x-preserved
loop-x-preserved c = let s = shown c.in-Ok-Some.is (rw c.in-Ok-Some.is at c.in-Ok-Some.field-0-is) c.next_visible-after.ensures in
    let r = c.read_stretch-plain.ensures in (
      running_more r.room (r.sim c.loop-x.invariant.0) s (sym c.takes.ensures ∙ c.if-not-takes.false)
          (ap (λ (i : ℕ). set c.read_stretch-plain.new.work i c.in-Ok-Some.x.start) c.math.ensures),
      s.lined,
    )
