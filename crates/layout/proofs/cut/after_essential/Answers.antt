use mathlib.Core.Path.{sym, ◌∙◌}
use Rattle.paper.specs.Layout.{an_address, an_expression, hypothesis_tail}
use Rattle.layout.proofs.Left.{some_left, none_left, left_then, none_then, left_skipped}
use Rattle.layout.proofs.cut.after_essential.Goals as goal

pub returns-in_err-expression : goal.returns-in_err-expression
unfolding hypothesis_tail
returns-in_err-expression c =
    rw c.from_residual.ensures
    (sym (none_then (an_address c.args.bytes.now) an_expression (left_skipped _ ∙ none_left _ c.after_part.ensures.value c.in_err-expression.was)))

pub returns : goal.returns
unfolding hypothesis_tail
returns c =
    c.after_expression.ensures.value
    ∙ sym (left_then (an_address c.args.bytes.now) an_expression (left_skipped _ ∙ some_left _ c.after_part.ensures.value c.in_ok-expression.was))
