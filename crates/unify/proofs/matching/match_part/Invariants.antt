use Rattle.unify.proofs.Matches.{PartLeft}
use Rattle.unify.proofs.matching.match_part.Given as goal

abbrev pub invariant-loop-i : goal.invariant-loop-i
invariant-loop-i l = PartLeft l.stack l.s l.p l.i l.q
