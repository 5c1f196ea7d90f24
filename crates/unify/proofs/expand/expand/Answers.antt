use lib.ListN.{take}
use Rattle.unify.specs.Bound.{spread}
use Rattle.unify.proofs.Pushes.{entry_full, entry_spread}
use Rattle.unify.proofs.expand.expand.Goals as goal

pub returns-in_err-p : goal.returns-in_err-p
returns-in_err-p c = let a = c.args in
    rw c.from_residual.ensures
    (entry_full a.typecode.0 (spread a.work.now a.n (take a.top a.stack.now) a.tokens.now) c.in_err-p.ensures)

pub returns : goal.returns
returns c = let a = c.args in
    entry_spread a.work.now a.n a.tokens.now a.typecode.0 _ c.in_ok-p.ensures c.expand_tokens.ensures
