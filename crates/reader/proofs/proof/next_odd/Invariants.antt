use Rattle.reader.specs.Hops.{Plain}
use Rattle.reader.proofs.proof.next_odd.Given as goal

abbrev pub invariant-loop-i : goal.invariant-loop-i
invariant-loop-i l = Plain l.text l.at l.i
