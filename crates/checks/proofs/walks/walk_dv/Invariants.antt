use mathlib.Core.Path.{◌≡◌}
use lib.ListN.{length}
use Rattle.checks.specs.Visible.{visible_from}
use Rattle.checks.proofs.OverRows.{InvDv}
use Rattle.checks.proofs.walks.walk_dv.Given as goal

abbrev pub invariant-loop-x : goal.invariant-loop-x
invariant-loop-x l =
    InvDv l.initial.work l.work l.initial.diags l.diags l.n l.at l.p l.first (length (visible_from l.part 0)) l.s.0
    l.x-iterator.index
    × (l.x-iterator.part.now ≡ l.part)
