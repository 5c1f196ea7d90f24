use mathlib.Core.Path.{◌≡◌, sym, ◌∙◌}
use Rattle.std.specs.Prelude.{option_copied}
use Rattle.paper.specs.Layout.{part, a_hypothesis}
use Rattle.layout.specs.Cuts.{left}
use Rattle.layout.proofs.Left.{some_left, none_left, parted, left_then, none_then, left_whole}
use Rattle.layout.proofs.Ends.{ends_hypothesis, ends_of}
use Rattle.layout.proofs.cut.after_hypothesis.Goals as goal

pub returns-in_err-rest : goal.returns-in_err-rest
unfolding a_hypothesis
returns-in_err-rest c =
    record {
      value = rw c.from_residual.ensures
          (sym (left_whole _ ∙ none_then (part 2 c.args.bytes.now) _ (none_left _ c.after_part.ensures.value c.in_err-rest.was)));
      ends = rw c.from_residual.ensures tt;
    }

pub u16_at-requires : goal.u16_at-requires
u16_at-requires c = (parted 2 c.args.bytes.now c.in_ok-rest.rest.now (some_left _ c.after_part.ensures.value c.in_ok-rest.was)).room

pub returns : goal.returns
unfolding a_hypothesis
returns c =
    let e : option_copied c.after_tag.result ≡ left (a_hypothesis c.args.bytes.now) =
    c.after_tag.ensures
    ∙ sym (left_whole _
    ∙ left_then (part 2 c.args.bytes.now) _ (some_left _ c.after_part.ensures.value c.in_ok-rest.was)
    ∙ rw c.u16_at.ensures.1) in
    record { value = e; ends = ends_of a_hypothesis c.args.bytes.now c.after_tag.result ends_hypothesis e }
