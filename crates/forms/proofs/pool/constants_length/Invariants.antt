use Prim.Native.Nat.{◌+◌}
use Rattle.forms.proofs.Constants.{InvSizes}
use Rattle.forms.proofs.pool.constants_length.Given as goal

abbrev pub invariant-loop-atom : goal.invariant-loop-atom
invariant-loop-atom l = InvSizes l.work l.n l.fn.row.0 l.sum (l.atom-index + 1)
