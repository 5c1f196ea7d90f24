use native.Mathlib.Omega.{arith}
use Rattle.unify.proofs.Matches.{match_none, spread_none, tokens_more, tokens_differ}
use Rattle.unify.proofs.matching.match_tokens.Goals as goal

pub loop-t-init : goal.loop-t-init
loop-t-init c = let a = c.args in rw (spread_none a.work.now a.n a.stack.now) (match_none a.stack.now a.p)

pub returns-in_err-q : goal.returns-in_err-q
returns-in_err-q c = let a = c.args in
    rw c.from_residual.ensures
    (tokens_differ a.work.now a.n a.stack.now a.tokens.now c.loop-t.t-index c.loop-t.invariant (omega arith) c.in_err-q.ensures)

pub loop-t-preserved : goal.loop-t-preserved
loop-t-preserved c = let a = c.args in
    tokens_more a.work.now a.n a.stack.now a.tokens.now c.loop-t.t-index c.loop-t.invariant _ (omega arith) c.in_ok-q.ensures
