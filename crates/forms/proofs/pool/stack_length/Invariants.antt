use Rattle.forms.proofs.Essentials.{InvSize}
use Rattle.forms.proofs.pool.stack_length.Given as goal

abbrev pub invariant-loop-k : goal.invariant-loop-k
invariant-loop-k l = InvSize l.work l.n l.sum l.k
