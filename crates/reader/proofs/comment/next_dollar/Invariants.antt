use mathlib.Core.Logic.{◌≢◌}
use Prim.Native.Nat.{ℕ, ◌<◌, ◌≤◌}
use lib.ListN.{length, get_or}
use Rattle.reader.proofs.comment.next_dollar.Given as goal

abbrev pub invariant-loop-i : goal.invariant-loop-i
invariant-loop-i l = (l.at ≤ l.i) × (l.i ≤ length l.text) × ((j : ℕ) → l.at ≤ j → j < l.i → get_or l.text j 0 ≢ 36)
