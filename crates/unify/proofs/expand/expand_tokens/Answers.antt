use native.Mathlib.Omega.{arith}
use lib.ListN.{take}
use Rattle.unify.proofs.Matches.{spread_none}
use Rattle.unify.proofs.Pushes.{push_none, spread_next, spread_full}
use Rattle.unify.proofs.expand.expand_tokens.Goals as goal

pub loop-t-init : goal.loop-t-init
loop-t-init c = let a = c.args in rw (spread_none a.work.now a.n (take a.top a.stack.now)) (push_none a.stack.now a.p (omega arith))

pub returns-in_err-q : goal.returns-in_err-q
returns-in_err-q c = let a = c.args in
    rw c.from_residual.ensures
    (spread_full a.work.now a.n a.top a.tokens.now c.loop-t.t-index (omega arith) (omega arith) c.loop-t.invariant c.in_err-q.ensures)

pub loop-t-preserved : goal.loop-t-preserved
loop-t-preserved c = let a = c.args in
    spread_next a.work.now a.n a.top a.tokens.now c.loop-t.t-index (omega arith) (omega arith) c.loop-t.invariant _ c.in_ok-q.ensures
