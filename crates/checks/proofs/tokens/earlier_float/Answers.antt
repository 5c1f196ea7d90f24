use native.Mathlib.Omega.{arith}
use mathlib.Core.Path.{sym, ◌∙◌}
use Rattle.checks.specs.Tokens.{earlier_slot}
use Rattle.checks.proofs.Ones.{float_row}
use Rattle.checks.proofs.tokens.earlier_float.Goals as goal

pub returns-in_err-row : goal.returns-in_err-row
unfolding earlier_slot
returns-in_err-row c = rw (c.from_residual.ensures, ← c.lookup_float.ensures, c.in_err-row.was)

pub of_statement-at-requires : goal.of_statement-at-requires
of_statement-at-requires c =
    (c.requires.0, omega (arith, c.requires.2, float_row _ _ _ _ _ (sym c.lookup_float.ensures ∙ c.in_ok-row.was)), omega arith)

pub returns : goal.returns
unfolding earlier_slot
returns c = rw (← c.lookup_float.ensures, c.in_ok-row.was, ← c.of_statement-at.ensures)
