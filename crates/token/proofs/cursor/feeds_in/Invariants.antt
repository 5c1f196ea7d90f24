use mathlib.Core.Path.{◌≡◌}
use Prim.Native.Nat.{◌+◌, ◌≤◌}
use Rattle.paper.specs.Lines.{line_at}
use Rattle.token.proofs.cursor.feeds_in.Given as goal

abbrev pub invariant-loop-b : goal.invariant-loop-b
invariant-loop-b l = (l.sum ≤ l.b-index) × (line_at l.leg l.b-index ≡ l.sum + 1)
