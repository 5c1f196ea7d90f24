use mathlib.Core.Path.{sym, ◌∙◌}
use native.Mathlib.Omega.{arith}
use Rattle.stream.specs.Fields.{variables_at}
use Rattle.stream.proofs.Fields.{counted}
use Rattle.stream.proofs.field.variables_at.Goals as goal

pub returns-in_err-counts : goal.returns-in_err-counts
unfolding variables_at
returns-in_err-counts c = rw (sym c.counts_at.ensures ∙ c.in_err-counts.was) c.from_residual.ensures

pub u16_at-requires : goal.u16_at-requires
u16_at-requires c = let h = counted _ _ _ (sym c.counts_at.ensures ∙ c.in_ok-counts.was) in omega arith

pub returns : goal.returns
unfolding variables_at
returns c = rw (sym c.counts_at.ensures ∙ c.in_ok-counts.was, c.u16_at.ensures.1)
