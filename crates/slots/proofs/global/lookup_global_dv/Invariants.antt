use Rattle.slots.proofs.Lowest.{InvGlobal}
use Rattle.slots.proofs.global.lookup_global_dv.Given as goal

abbrev pub invariant-loop-k : goal.invariant-loop-k
invariant-loop-k l = InvGlobal l.work l.ds l.k
