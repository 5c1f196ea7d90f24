use Prim.Native.Nat.{ℕ, ◌<◌, ◌≤◌}
use mathlib.Core.Path.{◌≡◌}
use mathlib.Core.Bool.{false}
use lib.ListN.{get_or}
use Rattle.paper.specs.Bytes.{white}
use Rattle.reader.proofs.comment.start_of.Given as goal

abbrev pub invariant-loop-i : goal.invariant-loop-i
invariant-loop-i l = (l.at ≤ l.i) × (l.i ≤ l.k) × ((j : ℕ) → l.i ≤ j → j < l.k → white (get_or l.text j 0) ≡ false)
