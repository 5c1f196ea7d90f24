use Prim.Native.Nat.{◌-◌}
use Rattle.slots.proofs.Marks.{InvForget}
use Rattle.slots.proofs.mark.forget_dv.Given as goal

abbrev pub invariant-loop-row : goal.invariant-loop-row
invariant-loop-row l = InvForget l.initial.work l.work l.n l.first l.count (l.row - l.first)
