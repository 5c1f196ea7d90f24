use mathlib.Core.Path.{sym, ◌∙◌}
use native.Mathlib.Omega.{arith}
use Rattle.layout.proofs.Fit.{fitting_stands}
use Rattle.layout.proofs.Streams.{looked_start, looked_next, looked_bad, looked_end}
use Rattle.layout.proofs.convert.first_unfit.Goals as goal

pub loop-at-init : goal.loop-at-init
loop-at-init c = looked_start _

pub returns-in_default : goal.returns-in_default
returns-in_default c = looked_bad c.loop-at.invariant c.loop-at-test.true (sym c.in_default.is ∙ c.after_record.ensures)

pub loop-at-smaller : goal.loop-at-smaller
loop-at-smaller c = let f = fitting_stands c.args.stream.now c.loop-at.at (sym c.in-Some.is ∙ c.after_record.ensures) in omega (arith, f.after)

pub loop-at-preserved : goal.loop-at-preserved
loop-at-preserved c = looked_next c.loop-at.invariant c.loop-at-test.true (sym c.in-Some.is ∙ c.after_record.ensures)

pub returns : goal.returns
returns c = looked_end c.loop-at.invariant (omega arith)
