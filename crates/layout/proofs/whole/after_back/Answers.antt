use mathlib.Core.Path.{◌≡◌, sym, ◌∙◌}
use Prim.Native.Nat.{◌+◌, ◌/◌}
use native.Mathlib.Omega.{arith}
use Rattle.paper.specs.Layout.{an_expression, counted, back_parts}
use Rattle.layout.proofs.Left.{some_left, none_left, left_then, none_then}
use Rattle.layout.proofs.whole.after_back.Goals as goal

pub returns-in_err-pairs : goal.returns-in_err-pairs
unfolding back_parts
returns-in_err-pairs c =
    rw c.from_residual.ensures (sym (none_then (an_expression c.args.bytes.now) _ (none_left _ c.after_expression.ensures.value c.in_err-pairs.was)))

pub returns-in_err-rows : goal.returns-in_err-rows
unfolding back_parts
returns-in_err-rows c =
    rw c.from_residual-in_err-rows.ensures
    (sym (left_then (an_expression c.args.bytes.now) _ (some_left _ c.after_expression.ensures.value c.in_ok-pairs.was)
    ∙ none_then (counted 4 c.in_ok-pairs.pairs.now) _ (none_left _ c.after_counted.ensures.value c.in_err-rows.was)))

pub returns : goal.returns
unfolding back_parts
returns c =
    let e : c.div_ceil.result ≡ (c.args.variables + 7) / 8 = omega (arith, c.div_ceil.ensures) in
    (rw e at c.after_part.ensures.value)
    ∙ sym (left_then (an_expression c.args.bytes.now) _ (some_left _ c.after_expression.ensures.value c.in_ok-pairs.was)
    ∙ left_then (counted 4 c.in_ok-pairs.pairs.now) _ (some_left _ c.after_counted.ensures.value c.in_ok-rows.was))
