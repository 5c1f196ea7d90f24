use Prim.Native.Nat.{◌-◌}
use Rattle.nameck.proofs.Walk.{InvMath}
use Rattle.nameck.proofs.naming.name_math.Given as goal

abbrev pub invariant-loop-row : goal.invariant-loop-row
invariant-loop-row l = InvMath l.text l.part l.initial.work l.work l.n l.s l.declares l.names l.k (l.row - l.first)
