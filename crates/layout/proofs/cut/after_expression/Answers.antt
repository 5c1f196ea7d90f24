use mathlib.Core.Path.{◌≡◌, sym, ◌∙◌}
use Rattle.std.specs.Prelude.{option_copied}
use Rattle.paper.specs.Layout.{a_string, counted, an_expression}
use Rattle.layout.specs.Cuts.{left}
use Rattle.layout.proofs.Left.{some_left, none_left, left_then, none_then, left_whole}
use Rattle.layout.proofs.Ends.{ends_expression, ends_of}
use Rattle.layout.proofs.cut.after_expression.Goals as goal

pub returns-in_err-fragments : goal.returns-in_err-fragments
unfolding an_expression
returns-in_err-fragments c =
    record {
      value = rw c.from_residual.ensures
          (sym (left_whole _ ∙ none_then (a_string c.args.bytes.now) _ (none_left _ c.after_string.ensures.value c.in_err-fragments.was)));
      ends = rw c.from_residual.ensures tt;
    }

pub returns-in_err-rump : goal.returns-in_err-rump
unfolding an_expression
returns-in_err-rump c =
    record {
      value = rw c.from_residual-in_err-rump.ensures
          (sym (left_whole _
          ∙ left_then (a_string c.args.bytes.now) _ (some_left _ c.after_string.ensures.value c.in_ok-fragments.was)
          ∙ none_then (counted 10 c.in_ok-fragments.fragments.now) _ (none_left _ c.after_counted.ensures.value c.in_err-rump.was)));
      ends = rw c.from_residual-in_err-rump.ensures tt;
    }

pub returns : goal.returns
unfolding an_expression
returns c =
    let e : option_copied c.after_part.result ≡ left (an_expression c.args.bytes.now) =
    c.after_part.ensures.value
    ∙ sym (left_whole _
    ∙ left_then (a_string c.args.bytes.now) _ (some_left _ c.after_string.ensures.value c.in_ok-fragments.was)
    ∙ left_then (counted 10 c.in_ok-fragments.fragments.now) _ (some_left _ c.after_counted.ensures.value c.in_ok-rump.was)) in
    record { value = e; ends = ends_of an_expression c.args.bytes.now c.after_part.result ends_expression e }
