use mathlib.Core.Path.{sym, ◌∙◌}
use native.Mathlib.Omega.{arith}
use Rattle.stream.proofs.Strings.{stops}
use Rattle.stream.proofs.Framing.{no_record, no_length, too_short, in_kind}
use Rattle.stream.proofs.walk.record_at.Goals as goal

pub returns-then-bytes-at : goal.returns-then-bytes-at
returns-then-bytes-at c = no_record _ _ (omega arith)

pub returns-in_err-after : goal.returns-in_err-after
returns-in_err-after c = c.from_residual.ensures ∙ no_length _ _ (sym c.string_stop.ensures ∙ c.in_err-after.was)

pub returns-then-after-at : goal.returns-then-after-at
returns-then-after-at c = too_short _ _ (sym c.string_stop.ensures ∙ c.in_ok-after.was) c.if-after-at.true

pub u16_at-kind-requires : goal.u16_at-kind-requires
u16_at-kind-requires c = let s = stops _ _ _ _ (sym c.string_stop.ensures ∙ c.in_ok-after.was) in omega arith

pub label_in-requires : goal.label_in-requires
label_in-requires c = let s = stops _ _ _ _ (sym c.string_stop.ensures ∙ c.in_ok-after.was) in (omega arith, s.within)

pub returns : goal.returns
returns c =
    c.label_in.ensures
    ∙ in_kind _ _ (sym c.string_stop.ensures ∙ c.in_ok-after.was) c.if-after-at.false _ c.u16_at-kind.ensures.1
