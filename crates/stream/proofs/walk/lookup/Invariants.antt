use Prim.Native.Nat.{◌-◌}
use lib.ListN.{length}
use Rattle.stream.proofs.Search.{Walked}
use Rattle.stream.proofs.walk.lookup.Given as goal

abbrev pub invariant-loop-at : goal.invariant-loop-at
invariant-loop-at l = Walked l.frames l.label l.found l.at

abbrev pub decreases-loop-at : goal.decreases-loop-at
decreases-loop-at l = length l.frames - l.at
