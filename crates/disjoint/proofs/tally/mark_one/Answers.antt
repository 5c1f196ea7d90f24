use native.Mathlib.Omega.{arith}
use Rattle.disjoint.proofs.Walks.{atom_below, one_low, one_high, one_old, one_new}
use borrow.Author.Rules.{rules}
use Rattle.disjoint.proofs.tally.mark_one.Goals as goal
use Rattle.disjoint.proofs.tally.mark_one.Goals.{then-k-v-via-then-k-v, then-k-v-via-else-k-v+then-m-k, then-k-v-via-else-k-v+else-m-k+then-of_symbol-v}

pub of_symbol-k-requires : goal.of_symbol-k-requires
of_symbol-k-requires c = (c.requires.room, atom_below _ _ _ c.of_math-atom.ensures c.requires.token, omega arith)

pub of_symbol-requires : goal.of_symbol-requires
of_symbol-requires c = (c.requires.room, atom_below _ _ _ c.of_math-atom.ensures c.requires.token, omega arith)

pub returns-then-k-v : goal.returns-then-k-v
returns-then-k-v c =
    elim c.then-k-v.branch [
      | then-k-v-via-then-k-v w ↦ one_low _ _ _ _ _ c.of_math-atom.ensures c.of_symbol-k.ensures w.if-k-v.true
      | then-k-v-via-else-k-v+then-m-k w ↦
          one_high _ _ _ _ _ c.of_math-atom.ensures c.of_symbol-k.ensures w.if-k-v.false w.if-m-k.true
      | then-k-v-via-else-k-v+else-m-k+then-of_symbol-v w ↦
          one_old _ _ _ _ _ c.of_math-atom.ensures c.of_symbol-k.ensures w.of_symbol.ensures
          w.if-k-v.false w.if-m-k.false w.if-of_symbol-v.true
    ]

pub put_symbol-requires : goal.put_symbol-requires
put_symbol-requires c = (c.requires.room, atom_below _ _ _ c.of_math-atom.ensures c.requires.token, omega arith)

pub returns : goal.returns
returns c = one_new _ _ _ _ _ c.of_math-atom.ensures c.of_symbol-k.ensures c.of_symbol.ensures (search rules) (search rules) c.if-of_symbol-v.false c.put_symbol.ensures
