use mathlib.Core.Path.{◌≡◌, sym, ap, ◌∙◌}
use Prim.Native.Nat.{ℕ, ◌+◌, ◌-◌}
use native.Mathlib.Omega.{arith}
use Rattle.stream.specs.Fields.{after_strings}
use Rattle.stream.proofs.Strings.{stops}
use Rattle.stream.proofs.Fields.{strings_none, strings_short, strings_more}
use Rattle.stream.proofs.field.after_strings.Goals as goal

pub loop-init : goal.loop-init
loop-init c =
    let e : c.args.count - 0 ≡ c.args.count = omega arith in
    (c.requires.0, ap (λ (n : ℕ). after_strings c.args.bytes.now c.args.end n c.args.from) e)

pub string_stop-requires : goal.string_stop-requires
string_stop-requires c = (omega arith, c.requires.1)

pub returns-in_err-at : goal.returns-in_err-at
returns-in_err-at c =
    c.from_residual.ensures
    ∙ strings_short _ _ _ (c.args.count - c.loop.counter) (omega arith) (sym c.string_stop.ensures ∙ c.in_err-at.was)
    ∙ c.loop.invariant.1

pub loop-preserved : goal.loop-preserved
loop-preserved c =
    let z = sym c.string_stop.ensures ∙ c.in_ok-at.was in
    let n = c.args.count - c.loop.counter in
    let e : c.args.count - (c.loop.counter + 1) ≡ n - 1 = omega arith in
    ((stops _ _ _ _ z).within, rw e (strings_more _ _ _ n (omega arith) z ∙ c.loop.invariant.1))

pub returns : goal.returns
returns c = strings_none _ _ _ (c.args.count - c.loop.counter) (omega arith) ∙ c.loop.invariant.1
