use Prim.Native.Nat.{◌+◌}
use Rattle.forms.proofs.Fragments.{InvFragments}
use Rattle.forms.proofs.expression.put_fragments.Given as goal

abbrev pub invariant-loop-atom : goal.invariant-loop-atom
invariant-loop-atom l = InvFragments l.work l.initial.buf l.buf l.n l.fn.row.0 l.pool l.at l.p (l.atom-index + 1)
