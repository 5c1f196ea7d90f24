use Rattle.forms.proofs.Variables.{InvNames}
use Rattle.forms.proofs.names.put_names.Given as goal

abbrev pub invariant-loop-k : goal.invariant-loop-k
invariant-loop-k l = InvNames l.text l.work l.initial.buf l.buf l.n l.at l.a l.k
