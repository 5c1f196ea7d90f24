use native.Mathlib.Omega.{arith}
use Rattle.nameck.proofs.Answers.{owned_none, owned_some}
use Rattle.nameck.proofs.lookup.lookup_label.Goals as goal

pub returns-in_err-o : goal.returns-in_err-o
returns-in_err-o c = rw c.from_residual.ensures (owned_none c.symbol.ensures (omega (arith, c.in_err-o.ensures)))

pub returns : goal.returns
returns c = owned_some c.symbol.ensures _ (omega (arith, c.in_ok-o.ensures))
