use mathlib.Core.Path.{◌≡◌}
use mathlib.Core.List.{List}
use Prim.Native.Nat.{ℕ, ◌-◌}
use denote.Ref.{Bor}
use Rattle.std.specs.Prelude.{Option, option_copied}
use Rattle.paper.specs.Layout.{Cut, times}
use Rattle.layout.specs.Cuts.{left}
use Rattle.layout.proofs.cut.after_times.Given as goal

abbrev pub invariant-loop : goal.invariant-loop
invariant-loop g l =
    goal.F-IsAlwaysCallable g l.after
    × ((f : List ℕ → Cut) → ((y : Bor (List ℕ)) (s : Option (Bor (List ℕ))) → goal.F-post g l.after y s → option_copied s ≡ left (f y.now))
    → left (times (l.count - l.counter) f l.rest) ≡ left (times l.count f l.bytes))
