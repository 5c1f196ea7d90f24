use mathlib.Core.Path.{sym, ◌∙◌}
use native.Mathlib.Omega.{arith}
use Rattle.paper.specs.Layout.{names_part, hypotheses_part}
use Rattle.layout.specs.Cuts.{assertion_tail}
use Rattle.layout.proofs.Left.{some_left, none_left, left_then, none_then, names_room}
use Rattle.layout.proofs.whole.after_tail.Goals as goal

pub returns-in_err-hypotheses : goal.returns-in_err-hypotheses
unfolding assertion_tail
returns-in_err-hypotheses c =
    rw c.from_residual.ensures (sym (none_then (names_part c.args.bytes.now) _ (none_left _ c.after_names.ensures.value c.in_err-hypotheses.was)))

pub returns-in_err-target : goal.returns-in_err-target
unfolding assertion_tail
returns-in_err-target c =
    rw c.from_residual-in_err-target.ensures
    (sym (left_then (names_part c.args.bytes.now) _ (some_left _ c.after_names.ensures.value c.in_ok-hypotheses.was)
    ∙ none_then (hypotheses_part c.in_ok-hypotheses.hypotheses.now) _ (none_left _ c.after_hypotheses.ensures.value c.in_err-target.was)))

pub u16_at-requires : goal.u16_at-requires
u16_at-requires c = let h = names_room c.args.bytes.now (some_left _ c.after_names.ensures.value c.in_ok-hypotheses.was) in omega arith

pub returns : goal.returns
unfolding assertion_tail
returns c =
    c.after_back.ensures
    ∙ sym (left_then (names_part c.args.bytes.now) _ (some_left _ c.after_names.ensures.value c.in_ok-hypotheses.was)
    ∙ left_then (hypotheses_part c.in_ok-hypotheses.hypotheses.now) _ (some_left _ c.after_hypotheses.ensures.value c.in_ok-target.was)
    ∙ rw c.u16_at.ensures.1)
