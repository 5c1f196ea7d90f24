use mathlib.Core.Path.{◌≡◌}
use Prim.Native.Nat.{◌-◌, ◌≤◌}
use Rattle.stream.specs.Fields.{after_strings}
use Rattle.stream.proofs.field.after_strings.Given as goal

abbrev pub invariant-loop : goal.invariant-loop
invariant-loop l =
    (l.at ≤ l.end) × (after_strings l.bytes l.end (l.count - l.counter) l.at ≡ after_strings l.bytes l.end l.count l.from)
