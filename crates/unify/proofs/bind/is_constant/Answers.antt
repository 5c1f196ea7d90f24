use mathlib.Core.Path.{ap}
use Prim.Native.Nat.{ℕ, ◌%◌}
use lib.Dec.{eqb}
use Rattle.unify.specs.Bound.{constant_word}
use Rattle.unify.proofs.bind.is_constant.Goals as goal

pub returns : goal.returns
unfolding constant_word
returns c = ap (λ (k : ℕ). eqb (k % 2) 1) c.of_symbol.ensures
