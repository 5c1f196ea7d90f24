use lib.ListN.{take}
use Rattle.std.specs.Prelude.{Some}
use Rattle.unify.specs.Bound.{spread}
use Rattle.unify.specs.Pushes.{Pushes}
use Rattle.unify.proofs.expand.expand_tokens.Given as goal

abbrev pub invariant-loop-t : goal.invariant-loop-t
invariant-loop-t l = Pushes l.initial.stack l.stack l.p (Some l.q) (spread l.work l.n (take l.top l.initial.stack) (take l.t-index l.tokens))
