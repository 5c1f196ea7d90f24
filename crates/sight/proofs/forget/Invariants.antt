use Rattle.sight.proofs.Stacks.{InvForget}
use Rattle.sight.proofs.forget.Given as goal

abbrev pub invariant-loop-k : goal.invariant-loop-k
invariant-loop-k l = InvForget l.initial.work l.work l.n l.vars l.k
