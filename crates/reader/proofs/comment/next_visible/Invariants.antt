use mathlib.Core.List.{[]}
use Prim.Native.Nat.{◌≤◌}
use lib.ListN.{length}
use Rattle.paper.specs.Comments.{outside}
use Rattle.token.specs.Words.{tokens_from, Lined}
use Rattle.reader.specs.Passed.{Passed}
use Rattle.reader.proofs.comment.next_visible.Given as goal

abbrev pub invariant-loop-x : goal.invariant-loop-x
invariant-loop-x l = Passed l.text l.initial.i.at l.i.at outside [] outside × (l.initial.i.at ≤ l.i.at) × Lined l.text l.i

abbrev pub decreases-loop-x : goal.decreases-loop-x
decreases-loop-x l = length (tokens_from l.text l.i.at)
