use mathlib.Core.Path.{sym, ◌∙◌}
use native.Mathlib.Nat.{le_refl}
use native.Mathlib.Omega.{arith}
use Rattle.reader.proofs.Marks.{closes_within, comment_unmarked, comment_closed, comment_never, comment_bad}
use Rattle.reader.proofs.comment.comment_end.Goals as goal

pub returns-in_default : goal.returns-in_default
returns-in_default c = comment_unmarked c.in_default.ensures (le_refl _)

pub hop-requires : goal.hop-requires
hop-requires c = (c.requires.1, omega (arith, c.in-Some.ensures.0.from), closes_within _ _ _ (sym c.closes_at.ensures ∙ c.if-closes_at.true))

pub returns-then-closes_at : goal.returns-then-closes_at
returns-then-closes_at c = comment_closed c.in-Some.ensures.0 c.in-Some.ensures.1 (sym c.closes_at.ensures ∙ c.if-closes_at.true) c.hop.ensures.0 c.hop.ensures.1

pub returns-then-not-closes_from : goal.returns-then-not-closes_from
returns-then-not-closes_from c = comment_never c.in-Some.ensures.0 c.in-Some.ensures.1 (sym c.closes_at.ensures ∙ c.if-closes_at.false) (sym c.closes_from.ensures ∙ c.if-not-closes_from.true)

pub hop-requires-2 : goal.hop-requires-2
hop-requires-2 c = (c.requires.1, c.start_of.ensures.from, omega (arith, c.start_of.ensures.upto, c.in-Some.ensures.0.within))

pub returns : goal.returns
returns c = comment_bad c.in-Some.ensures.0 c.in-Some.ensures.1 (sym c.closes_at.ensures ∙ c.if-closes_at.false) (sym c.closes_from.ensures ∙ c.if-not-closes_from.false) c.start_of.ensures c.hop-2.ensures.0 c.hop-2.ensures.1
