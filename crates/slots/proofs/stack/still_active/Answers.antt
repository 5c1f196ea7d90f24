use mathlib.Core.Path.{◌≡◌, sym, ◌∙◌}
use Prim.Native.Nat.{◌-◌, ◌+◌}
use native.Mathlib.Omega.{arith}
use Rattle.slots.proofs.Stacks.{pop_stop, pop_more, pop_zero, end_is}
use Rattle.slots.proofs.stack.still_active.Goals as goal

pub of_statement-row-requires : goal.of_statement-row-requires
of_statement-row-requires c = (c.requires.room, omega (arith, c.requires.depth), c.requires.column)

pub of_statement-end-requires : goal.of_statement-end-requires
of_statement-end-requires c = (
  c.requires.room,
  omega (arith, c.of_statement-row.ensures, c.requires.entry (c.loop-k.k - 1) (omega arith)),
  omega arith,
)

pub returns-then-here-end : goal.returns-then-here-end
returns-then-here-end c =
    let e : c.loop-k.k - 1 + 1 ≡ c.loop-k.k = omega arith in
    e
    ∙ sym (pop_stop _ _ _ _ (omega arith) (omega (arith, end_is _ _ _ _ _ c.of_statement-row.ensures c.of_statement-end.ensures)))
    ∙ c.loop-k.invariant

pub loop-k-preserved : goal.loop-k-preserved
loop-k-preserved c =
    pop_more _ _ _ _ (omega arith) (omega (arith, end_is _ _ _ _ _ c.of_statement-row.ensures c.of_statement-end.ensures))
    ∙ c.loop-k.invariant

pub returns : goal.returns
returns c = sym (pop_zero _ _ _ _ (omega arith)) ∙ c.loop-k.invariant
