use mathlib.Core.Path.{◌≡◌, sym, ◌∙◌}
use Rattle.std.proofs.Common.{rules}
use Rattle.std.specs.Prelude.{option_copied}
use Rattle.paper.specs.Layout.{part, a_hypothesis, hypotheses_part}
use Rattle.layout.specs.Cuts.{left}
use Rattle.layout.proofs.Left.{some_left, none_left, parted, left_then, none_then}
use Rattle.layout.proofs.Ends.{ends_hypotheses, ends_of}
use Rattle.layout.proofs.cut.after_hypotheses.Goals as goal

pub returns-in_err-rest : goal.returns-in_err-rest
unfolding hypotheses_part
returns-in_err-rest c =
    record {
      value = rw c.from_residual.ensures (sym (none_then (part 4 c.args.bytes.now) _ (none_left _ c.after_part.ensures.value c.in_err-rest.was)));
      ends = rw c.from_residual.ensures tt;
    }

pub u32_at-requires : goal.u32_at-requires
u32_at-requires c = (parted 4 c.args.bytes.now c.in_ok-rest.rest.now (some_left _ c.after_part.ensures.value c.in_ok-rest.was)).room

pub returns : goal.returns
unfolding hypotheses_part
returns c =
    let e : option_copied c.after_times.result ≡ left (hypotheses_part c.args.bytes.now) =
    c.after_times.ensures a_hypothesis (λ y s p. search rules)
    ∙ sym (left_then (part 4 c.args.bytes.now) _ (some_left _ c.after_part.ensures.value c.in_ok-rest.was) ∙ rw c.u32_at.ensures.1) in
    record { value = e; ends = ends_of hypotheses_part c.args.bytes.now c.after_times.result ends_hypotheses e }
