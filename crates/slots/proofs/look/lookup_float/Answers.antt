use native.Mathlib.Omega.{arith}
use borrow.Author.Tests.{eq-eqb, ne_eqb, lt-ltb, le-ltb}
use Rattle.slots.specs.Slots.{float_slot}
use Rattle.slots.proofs.look.lookup_float.Goals as goal

pub returns-in_err-f : goal.returns-in_err-f
unfolding float_slot
returns-in_err-f c = rw (c.from_residual.ensures, ← c.of_symbol.ensures, eq-eqb c.of_symbol.result 0 (omega (arith, c.in_err-f.ensures)))

pub returns-then-end-here : goal.returns-then-end-here
unfolding float_slot
returns-then-end-here c =
    rw (
      ← c.of_symbol.ensures,
      ne_eqb c.of_symbol.result 0 (λ z. omega (arith, z, c.in_ok-f.ensures.0)),
      ← c.in_ok-f.ensures.1,
      ← c.of_statement-end.ensures,
      le-ltb _ _ c.if-end-here.true,
    )

pub returns : goal.returns
unfolding float_slot
returns c =
    rw (
      ← c.of_symbol.ensures,
      ne_eqb c.of_symbol.result 0 (λ z. omega (arith, z, c.in_ok-f.ensures.0)),
      ← c.in_ok-f.ensures.1,
      ← c.of_statement-end.ensures,
      lt-ltb _ _ c.if-end-here.false,
    )
