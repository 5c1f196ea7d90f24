use mathlib.Core.Path.{◌≡◌}
use mathlib.Core.Bool.{false}
use Prim.Native.Nat.{ℕ, ◌-◌, ◌<◌, ◌≤◌}
use lib.ListN.{length, drop}
use Rattle.reader.specs.Dollar.{mark_first}
use Rattle.reader.proofs.comment.next_mark.Given as goal

abbrev pub invariant-loop-k : goal.invariant-loop-k
invariant-loop-k l = (l.at ≤ l.i) × (l.i ≤ length l.text) × ((j : ℕ) → l.at ≤ j → j < l.i → mark_first (drop j l.text) ≡ false)

abbrev pub decreases-loop-k : goal.decreases-loop-k
decreases-loop-k l = length l.text - l.i
