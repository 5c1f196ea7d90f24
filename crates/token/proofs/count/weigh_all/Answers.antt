use native.Mathlib.Omega.{arith}
use lib.ListN.{get_or}
use Rattle.token.proofs.Weights.{weigh_step, weigh_end}
use borrow.Author.Rules.{rules}
use Rattle.token.proofs.count.weigh_all.Goals as goal

pub loop-b-preserved : goal.loop-b-preserved
loop-b-preserved c =
    let b = get_or c.args.text.now c.loop-b.b-index 0 in
    let weighed = c.requires.0.at b (omega (arith, c.type_inv.text c.loop-b.b-index)) in
    weigh_step c.loop-b.invariant (search rules) (rw c.from.ensures weighed) c.from-tokens.ensures

pub returns-then-sum-lt4294967296 : goal.returns-then-sum-lt4294967296
returns-then-sum-lt4294967296 c = weigh_end c.loop-b.invariant (search rules) c.if-sum-lt4294967296.true
