use mathlib.Core.Path.{sym, ◌∙◌}
use Rattle.paper.specs.Layout.{an_address, a_string, label_part}
use Rattle.layout.specs.Cuts.{assertion_tail, assertion_parts}
use Rattle.layout.proofs.Left.{some_left, none_left, left_then, none_then, left_skipped}
use Rattle.layout.proofs.whole.after_assertion.Goals as goal

pub returns-in_err-label : goal.returns-in_err-label
unfolding assertion_parts
returns-in_err-label c =
    rw c.from_residual.ensures
    (sym (none_then (label_part c.args.bytes.now) assertion_tail
    (none_then (an_address c.args.bytes.now) a_string (left_skipped _ ∙ none_left _ c.after_part.ensures.value c.in_err-label.was))))

pub returns-in_err-tail : goal.returns-in_err-tail
unfolding assertion_parts
returns-in_err-tail c =
    rw c.from_residual-in_err-tail.ensures
    (sym (none_then (label_part c.args.bytes.now) assertion_tail
    (left_then (an_address c.args.bytes.now) a_string (left_skipped _ ∙ some_left _ c.after_part.ensures.value c.in_ok-label.was)
    ∙ none_left _ c.after_string.ensures.value c.in_err-tail.was)))

pub returns : goal.returns
unfolding assertion_parts
returns c =
    c.after_tail.ensures
    ∙ sym (left_then (label_part c.args.bytes.now) assertion_tail
    (left_then (an_address c.args.bytes.now) a_string (left_skipped _ ∙ some_left _ c.after_part.ensures.value c.in_ok-label.was)
    ∙ some_left _ c.after_string.ensures.value c.in_ok-tail.was))
