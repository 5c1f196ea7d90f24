use mathlib.Core.Path.{sym, ◌∙◌}
use native.Mathlib.Omega.{arith}
use Rattle.stream.proofs.Strings.{stops}
use Rattle.stream.proofs.Framing.{no_place, place_below, no_label, no_stub, well}
use Rattle.stream.proofs.walk.label_in.Goals as goal

pub returns-in_err-place : goal.returns-in_err-place
returns-in_err-place c = c.from_residual.ensures ∙ no_place _ _ _ _ (sym c.label_place.ensures.1 ∙ c.in_err-place.was)

pub overflow_add-place : goal.overflow_add-place
overflow_add-place c = omega (arith, place_below c.args.kind c.in_ok-place.field-0 (sym c.label_place.ensures.1 ∙ c.in_ok-place.was))

pub string_stop-requires : goal.string_stop-requires
string_stop-requires c = (omega (arith, place_below c.args.kind c.in_ok-place.field-0 (sym c.label_place.ensures.1 ∙ c.in_ok-place.was)), c.requires.1)

pub returns-in_err-stop : goal.returns-in_err-stop
returns-in_err-stop c =
    c.from_residual-in_err-stop.ensures
    ∙ no_label _ _ _ _ (sym c.label_place.ensures.1 ∙ c.in_ok-place.was) (sym c.string_stop.ensures ∙ c.in_err-stop.was)

pub stub_if-requires : goal.stub_if-requires
stub_if-requires c = ((stops _ _ _ _ (sym c.string_stop.ensures ∙ c.in_ok-stop.was)).within, c.requires.1)

pub returns-then-not-stub_if : goal.returns-then-not-stub_if
returns-then-not-stub_if c =
    no_stub _ _ _ _ (sym c.label_place.ensures.1 ∙ c.in_ok-place.was) (sym c.string_stop.ensures ∙ c.in_ok-stop.was)
    (sym c.stub_if.ensures ∙ c.if-not-stub_if.true)

pub overflow_add-result : goal.overflow_add-result
overflow_add-result c = let s = stops _ _ _ _ (sym c.string_stop.ensures ∙ c.in_ok-stop.was) in omega arith

pub returns : goal.returns
returns c =
    well _ _ _ _ (sym c.label_place.ensures.1 ∙ c.in_ok-place.was) (sym c.string_stop.ensures ∙ c.in_ok-stop.was)
    (sym c.stub_if.ensures ∙ c.if-not-stub_if.false)
