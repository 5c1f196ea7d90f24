use mathlib.Core.Path.{ap}
use Prim.Native.Nat.{◌-◌}
use native.Mathlib.Omega.{arith}
use Rattle.disjoint.proofs.Walks.{atom_below, read_number}
use Rattle.disjoint.proofs.tally.number.Goals as goal

pub of_symbol-requires : goal.of_symbol-requires
of_symbol-requires c = (c.requires.0, atom_below _ _ _ c.of_math-atom.ensures c.requires.1, omega arith)

pub overflow_sub-result : goal.overflow_sub-result
overflow_sub-result c = omega (arith, read_number _ _ _ c.of_math-atom.ensures c.of_symbol.ensures, c.requires.1.some)

pub returns : goal.returns
returns c = ap (λ k. k - 1) (read_number _ _ _ c.of_math-atom.ensures c.of_symbol.ensures)
