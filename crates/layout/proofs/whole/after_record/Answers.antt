use mathlib.Core.Path.{sym, ◌∙◌}
use native.Mathlib.Omega.{arith}
use Rattle.std.proofs.Common.{rules}
use Rattle.stream.proofs.Strings.{stops}
use Rattle.layout.proofs.Left.{some_left, none_left}
use Rattle.layout.proofs.Fit.{fitting_few, fitting_off, fitting_none, fitting_short, fitting_left, fitting_all}
use Rattle.layout.proofs.whole.after_record.Goals as goal

pub returns-then-bytes-at : goal.returns-then-bytes-at
returns-then-bytes-at c = fitting_few c.args.bytes.now c.args.at (omega arith)

pub returns-in_err-end : goal.returns-in_err-end
returns-in_err-end c = c.from_residual.ensures ∙ fitting_off c.args.bytes.now c.args.at (sym c.string_stop.ensures ∙ c.in_err-end.was)

pub returns-then-end-at : goal.returns-then-end-at
returns-then-end-at c = fitting_none c.args.bytes.now c.args.at (sym c.string_stop.ensures ∙ c.in_ok-end.was) c.if-end-at.true

pub u16_at-kind-requires : goal.u16_at-kind-requires
u16_at-kind-requires c = let s = stops c.args.bytes.now c.args.at _ _ (sym c.string_stop.ensures ∙ c.in_ok-end.was) in omega arith

pub slice_bounds-after_payload-end : goal.slice_bounds-after_payload-end
slice_bounds-after_payload-end c = let s = stops c.args.bytes.now c.args.at _ _ (sym c.string_stop.ensures ∙ c.in_ok-end.was) in omega arith

pub returns-in_err-rest : goal.returns-in_err-rest
returns-in_err-rest c =
    c.from_residual-in_err-rest.ensures
    ∙ fitting_short c.args.bytes.now c.args.at (sym c.string_stop.ensures ∙ c.in_ok-end.was) c.if-end-at.false c.u16_at-kind.ensures.1
    (none_left _ c.after_payload.ensures c.in_err-rest.was)

pub returns-then-not-is_empty : goal.returns-then-not-is_empty
returns-then-not-is_empty c =
    fitting_left c.args.bytes.now c.args.at (sym c.string_stop.ensures ∙ c.in_ok-end.was) c.if-end-at.false c.u16_at-kind.ensures.1
    (some_left _ c.after_payload.ensures c.in_ok-rest.was) (λ e. search rules)

pub returns : goal.returns
returns c =
    fitting_all c.args.bytes.now c.args.at (sym c.string_stop.ensures ∙ c.in_ok-end.was) c.if-end-at.false c.u16_at-kind.ensures.1
    (some_left _ c.after_payload.ensures c.in_ok-rest.was) (search rules)
