use mathlib.Core.Path.{◌≡◌, sym, ◌∙◌}
use native.Mathlib.Omega.{arith}
use lib.ListN.{get_or, length}
use Rattle.paper.specs.Lines.{feed}
use Rattle.token.proofs.Lines.{line_start, line_step, feed_bit, feed_le, feeds_all}
use borrow.Author.Rules.{rules}
use Rattle.token.proofs.cursor.feeds_in.Goals as goal

pub loop-b-init : goal.loop-b-init
loop-b-init c = (search rules, sym (line_start _))

pub loop-b-preserved : goal.loop-b-preserved
loop-b-preserved c =
    let t = c.args.leg.now in
    let i = c.loop-b.b-index in
    let q : c.from-sum.result ≡ feed (get_or t i 0) = c.from-sum.ensures ∙ feed_bit _ in
    (omega (arith, q, feed_le (get_or t i 0)), omega (arith, q, c.loop-b.invariant.1, line_step t i (search rules)))

pub returns : goal.returns
returns c =
    let e : c.loop-b.b-index ≡ length c.args.leg.now = omega arith in
    let q = rw e at c.loop-b.invariant.1 in
    (omega (arith, q, feeds_all c.args.leg.now), search rules)
