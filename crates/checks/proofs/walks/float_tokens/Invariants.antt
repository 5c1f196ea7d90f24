use mathlib.Core.Path.{◌≡◌}
use Prim.Native.Nat.{◌≤◌}
use lib.ListN.{length}
use Rattle.checks.specs.Visible.{visible_from}
use Rattle.checks.specs.Walks.{LastTwo}
use Rattle.checks.proofs.walks.float_tokens.Given as goal

abbrev pub invariant-loop-x : goal.invariant-loop-x
invariant-loop-x l =
    LastTwo l.work l.n l.first l.x-iterator.index l.typecode.0 l.variable.0
    × (l.x-iterator.index ≤ length (visible_from l.part 0))
    × (l.x-iterator.part.now ≡ l.part)
