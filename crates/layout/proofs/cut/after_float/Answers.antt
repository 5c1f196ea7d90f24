use mathlib.Core.Path.{sym, ◌∙◌}
use Rattle.paper.specs.Layout.{an_address, part, hypothesis_tail}
use Rattle.layout.proofs.Left.{some_left, none_left, left_then, none_then, left_skipped}
use Rattle.layout.proofs.cut.after_float.Goals as goal

pub returns-in_err-variable : goal.returns-in_err-variable
unfolding hypothesis_tail
returns-in_err-variable c =
    rw c.from_residual.ensures
    (sym (none_then (an_address c.args.bytes.now) _ (left_skipped _ ∙ none_left _ c.after_part.ensures.value c.in_err-variable.was)))

pub returns-in_err-typecode : goal.returns-in_err-typecode
unfolding hypothesis_tail
returns-in_err-typecode c =
    rw c.from_residual-in_err-typecode.ensures
    (sym (left_then (an_address c.args.bytes.now) _ (left_skipped _ ∙ some_left _ c.after_part.ensures.value c.in_ok-variable.was)
    ∙ none_then (part 2 c.in_ok-variable.variable.now) _ (none_left _ c.after_part-2.ensures.value c.in_err-typecode.was)))

pub returns : goal.returns
unfolding hypothesis_tail
returns c =
    c.after_string.ensures.value
    ∙ sym (left_then (an_address c.args.bytes.now) _ (left_skipped _ ∙ some_left _ c.after_part.ensures.value c.in_ok-variable.was)
    ∙ left_then (part 2 c.in_ok-variable.variable.now) _ (some_left _ c.after_part-2.ensures.value c.in_ok-typecode.was))
