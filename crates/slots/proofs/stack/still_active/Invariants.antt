use mathlib.Core.Path.{◌≡◌}
use Rattle.slots.specs.Stack.{pop_of}
use Rattle.slots.proofs.stack.still_active.Given as goal

abbrev pub invariant-loop-k : goal.invariant-loop-k
invariant-loop-k l = pop_of l.work l.column l.k l.here.0 ≡ pop_of l.work l.column l.depth l.here.0
