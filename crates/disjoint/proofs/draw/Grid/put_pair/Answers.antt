use mathlib.Core.Path.{sym, ◌∙◌}
use mathlib.Core.Logic.{inl, inr}
use native.Mathlib.Omega.{arith}
use Rattle.disjoint.proofs.Draws.{pair_fits, drew_beyond_left, drew_beyond_right, drew_old, drew_left, drew_right, drew_both}
use borrow.Author.Rules.{rules}
use Rattle.disjoint.proofs.draw.Grid.put_pair.Goals as goal

pub returns-then-self-i : goal.returns-then-self-i
returns-then-self-i c =
    elim c.then-self-i.either [
      | inl i ↦ drew_beyond_left _ _ _ _ _ i
      | inr (_, j) ↦ drew_beyond_right _ _ _ _ _ j
    ]

pub returns-then-bit_at : goal.returns-then-bit_at
returns-then-bit_at c = drew_old _ _ _ _ _ (search rules) (search rules) c.row-line.ensures (sym c.bit_at.ensures ∙ c.if-bit_at.true)

pub returns-then-self-i-2 : goal.returns-then-self-i-2
returns-then-self-i-2 c =
    let old = sym c.bit_at.ensures ∙ c.if-bit_at.false in
    elim c.then-self-i-2.either [
      | inl i ↦
          drew_left _ _ _ _ _ c.if-self-i.false c.if-self-j.false c.row-line.ensures c.row.ensures old
          c.set_bit.ensures c.set_bit-2.ensures i
      | inr (_, j) ↦
          drew_right _ _ _ _ _ c.if-self-i.false c.if-self-j.false c.row-line.ensures c.row.ensures old
          c.set_bit.ensures c.set_bit-2.ensures j
    ]

pub put_u16-a-requires : goal.put_u16-a-requires
put_u16-a-requires c = omega (arith, pair_fits c.requires (search rules) (search rules))

pub put_u16-requires : goal.put_u16-requires
put_u16-requires c = omega (arith, pair_fits c.requires (search rules) (search rules), c.put_u16-a.ensures.0)

pub returns : goal.returns
returns c = drew_both _ _ _ _ _ (search rules) (search rules) c.row-line.ensures c.row.ensures (sym c.bit_at.ensures ∙ c.if-bit_at.false) c.set_bit.ensures c.set_bit-2.ensures (search rules) (search rules) c.put_u16-a.ensures.1 c.put_u16.ensures.1
