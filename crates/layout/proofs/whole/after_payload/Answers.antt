use mathlib.Core.Path.{sym, ◌∙◌}
use mathlib.Core.Logic.{inl, inr}
use native.Mathlib.Omega.{arith}
use Rattle.paper.specs.Layout.{a_string, a_stub, float_head}
use Rattle.layout.proofs.Left.{some_left, none_left, left_then, none_then, payload_plain, payload_stub, payload_assertion, payload_none}
use Rattle.layout.proofs.whole.after_payload.Goals as goal
use Rattle.layout.proofs.whole.after_payload.Goals.{in_default-via-then-this-lt1, in_default-via-else-this-lt1+else-this-lt4}

pub returns-in_err-after_head-in-4 : goal.returns-in_err-after_head-in-4
returns-in_err-after_head-in-4 c =
    rw c.from_residual.ensures
    (sym (none_then (float_head c.args.bytes.now) a_string (none_left _ c.after_head.ensures c.in_err-after_head-in-4.was))
    ∙ payload_plain c.args.kind c.args.bytes.now c.in-4.is)

pub returns-in_err-after_head-in-1 : goal.returns-in_err-after_head-in-1
returns-in_err-after_head-in-1 c =
    rw c.from_residual-in_err-after_head-in-1.ensures
    (sym (none_then (float_head c.args.bytes.now) a_stub (none_left _ c.after_head-in-1.ensures c.in_err-after_head-in-1.was))
    ∙ payload_stub c.args.kind c.args.bytes.now c.in-1.is)

pub returns-in_ok-after_head-in-4 : goal.returns-in_ok-after_head-in-4
returns-in_ok-after_head-in-4 c =
    c.after_string.ensures.value
    ∙ sym (left_then (float_head c.args.bytes.now) a_string (some_left _ c.after_head.ensures c.in_ok-after_head-in-4.was))
    ∙ payload_plain c.args.kind c.args.bytes.now c.in-4.is

pub returns-in_ok-after_head-in-1 : goal.returns-in_ok-after_head-in-1
returns-in_ok-after_head-in-1 c =
    c.after_stub.ensures.value
    ∙ sym (left_then (float_head c.args.bytes.now) a_stub (some_left _ c.after_head-in-1.ensures c.in_ok-after_head-in-1.was))
    ∙ payload_stub c.args.kind c.args.bytes.now c.in-1.is

pub returns-in-2 : goal.returns-in-2
returns-in-2 c = c.after_assertion.ensures ∙ payload_assertion c.args.kind c.args.bytes.now (omega arith) (omega arith)

pub returns-in_default : goal.returns-in_default
returns-in_default c =
    payload_none c.args.kind c.args.bytes.now
    (elim c.in_default.branch [ in_default-via-then-this-lt1 w ↦ inl (omega arith) | in_default-via-else-this-lt1+else-this-lt4 w ↦ inr (omega arith) ])
