use Prim.Native.Nat.{◌+◌}
use Rattle.forms.proofs.Constants.{InvConstants}
use Rattle.forms.proofs.pool.put_constants.Given as goal

abbrev pub invariant-loop-atom : goal.invariant-loop-atom
invariant-loop-atom l = InvConstants l.text l.work l.initial.buf l.buf l.n l.fn.row.0 l.at l.a (l.atom-index + 1)
