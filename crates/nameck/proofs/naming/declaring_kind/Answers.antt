use native.Mathlib.Omega.{arith}
use borrow.Author.Tests.{eq-eqb, ne_eqb}
use Rattle.nameck.specs.Naming.{declaring}
use Rattle.nameck.proofs.naming.declaring_kind.Goals as goal

pub returns-then-end-ne-NO_END : goal.returns-then-end-ne-NO_END
unfolding declaring
returns-then-end-ne-NO_END c =
    rw (ne_eqb c.args.end 4294967295 (λ e. omega (arith, e, c.if-end-ne-NO_END.true)))

pub returns-in-1 : goal.returns-in-1
unfolding declaring
returns-in-1 c = rw (c.in-1.is, eq-eqb c.args.end 4294967295 (omega (arith, c.if-end-ne-NO_END.false)))

pub returns-in-2 : goal.returns-in-2
unfolding declaring
returns-in-2 c = rw (c.in-2.is, eq-eqb c.args.end 4294967295 (omega (arith, c.if-end-ne-NO_END.false)))

pub returns-in_default : goal.returns-in_default
unfolding declaring
returns-in_default c =
    let h = c.in_default in
    rw (
      eq-eqb c.args.end 4294967295 (omega (arith, c.if-end-ne-NO_END.false)),
      ne_eqb c.args.kind 1 (λ e. omega (arith, e, h)),
      ne_eqb c.args.kind 2 (λ e. omega (arith, e, h)),
    )
