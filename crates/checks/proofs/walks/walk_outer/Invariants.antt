use mathlib.Core.Path.{◌≡◌}
use Rattle.checks.proofs.OverPart.{InvOuter}
use Rattle.checks.proofs.walks.walk_outer.Given as goal

abbrev pub invariant-loop-x : goal.invariant-loop-x
invariant-loop-x l =
    InvOuter l.work l.part l.initial.diags l.diags l.n l.at l.p l.first l.from l.s.0 l.x-iterator.index
    × (l.x-iterator.part.now ≡ l.part)
