use Prim.Native.Nat.{◌-◌}
use lib.ListN.{length}
use Rattle.layout.proofs.Renewing.{Putting}
use Rattle.layout.proofs.convert.put_all.Given as goal

abbrev pub invariant-loop-at : goal.invariant-loop-at
invariant-loop-at l = Putting l.stream l.initial.out l.out l.at

abbrev pub decreases-loop-at : goal.decreases-loop-at
decreases-loop-at l = length l.stream - l.at
