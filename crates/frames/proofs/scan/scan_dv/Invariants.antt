use Rattle.frames.proofs.Outer.{Onward}
use Rattle.frames.proofs.scan.scan_dv.Given as goal

abbrev pub invariant-loop-k : goal.invariant-loop-k
invariant-loop-k l = Onward l.initial.work l.work l.n l.initial.v l.v 11 l.ds 0 l.outer l.k
