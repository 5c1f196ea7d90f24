use mathlib.Core.Path.{sym, ◌∙◌}
use Rattle.paper.specs.Layout.{an_address, a_string}
use Rattle.layout.proofs.Left.{some_left, none_left, left_then, none_then, left_skipped}
use Rattle.layout.proofs.whole.after_head.Goals as goal

pub returns-in_err-close : goal.returns-in_err-close
returns-in_err-close c =
    rw c.from_residual.ensures
    (sym (none_then (an_address c.args.bytes.now) _ (left_skipped _ ∙ none_left _ c.after_part.ensures.value c.in_err-close.was)))

pub returns-in_err-label : goal.returns-in_err-label
returns-in_err-label c =
    rw c.from_residual-in_err-label.ensures
    (sym (left_then (an_address c.args.bytes.now) _ (left_skipped _ ∙ some_left _ c.after_part.ensures.value c.in_ok-close.was)
    ∙ none_then (an_address c.in_ok-close.close.now) _ (left_skipped _ ∙ none_left _ c.after_part-2.ensures.value c.in_err-label.was)))

pub returns-in_err-typecode : goal.returns-in_err-typecode
returns-in_err-typecode c =
    rw c.from_residual-in_err-typecode.ensures
    (sym (left_then (an_address c.args.bytes.now) _ (left_skipped _ ∙ some_left _ c.after_part.ensures.value c.in_ok-close.was)
    ∙ left_then (an_address c.in_ok-close.close.now) _ (left_skipped _ ∙ some_left _ c.after_part-2.ensures.value c.in_ok-label.was)
    ∙ none_then (a_string c.in_ok-label.label.now) _ (none_left _ c.after_string.ensures.value c.in_err-typecode.was)))

pub returns : goal.returns
returns c =
    c.after_string-2.ensures.value
    ∙ sym (left_then (an_address c.args.bytes.now) _ (left_skipped _ ∙ some_left _ c.after_part.ensures.value c.in_ok-close.was)
    ∙ left_then (an_address c.in_ok-close.close.now) _ (left_skipped _ ∙ some_left _ c.after_part-2.ensures.value c.in_ok-label.was)
    ∙ left_then (a_string c.in_ok-label.label.now) _ (some_left _ c.after_string.ensures.value c.in_ok-typecode.was))
