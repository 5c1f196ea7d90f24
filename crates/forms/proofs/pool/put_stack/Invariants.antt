use Rattle.forms.proofs.Essentials.{InvStack}
use Rattle.forms.proofs.pool.put_stack.Given as goal

abbrev pub invariant-loop-k : goal.invariant-loop-k
invariant-loop-k l = InvStack l.text l.work l.initial.buf l.buf l.n l.at l.a l.k
