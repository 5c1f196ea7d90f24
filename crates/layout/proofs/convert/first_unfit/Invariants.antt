use Prim.Native.Nat.{◌-◌}
use lib.ListN.{length}
use Rattle.layout.proofs.Streams.{Looked}
use Rattle.layout.proofs.convert.first_unfit.Given as goal

abbrev pub invariant-loop-at : goal.invariant-loop-at
invariant-loop-at l = Looked l.stream l.at

abbrev pub decreases-loop-at : goal.decreases-loop-at
decreases-loop-at l = length l.stream - l.at
