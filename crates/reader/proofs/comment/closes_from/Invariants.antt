use mathlib.Core.Path.{◌≡◌}
use Prim.Native.Nat.{◌-◌, ◌≤◌}
use lib.ListN.{length}
use Rattle.reader.specs.Dollar.{seek}
use Rattle.reader.proofs.comment.closes_from.Given as goal

abbrev pub invariant-loop-k : goal.invariant-loop-k
invariant-loop-k l = (seek l.text l.at l.i ≡ seek l.text l.at l.from) × (l.at ≤ l.i) × (l.i ≤ length l.text)

abbrev pub decreases-loop-k : goal.decreases-loop-k
decreases-loop-k l = length l.text - l.i
