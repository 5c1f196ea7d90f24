use lib.ListN.{take}
use Rattle.std.specs.Prelude.{Some}
use Rattle.unify.specs.Bound.{spread}
use Rattle.unify.specs.Matches.{Matches}
use Rattle.unify.proofs.matching.match_tokens.Given as goal

abbrev pub invariant-loop-t : goal.invariant-loop-t
invariant-loop-t l = Matches (spread l.work l.n l.stack (take l.t-index l.tokens)) l.stack l.p (Some l.q)
