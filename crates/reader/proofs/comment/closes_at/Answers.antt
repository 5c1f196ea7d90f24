use mathlib.Core.Path.{sym, ◌∙◌}
use Rattle.reader.proofs.Dollars.{closes_none, closes_some}
use borrow.Author.Rules.{rules}
use Rattle.reader.proofs.comment.closes_at.Goals as goal

pub returns-then-not-opens_here : goal.returns-then-not-opens_here
returns-then-not-opens_here c = rw (sym c.opens_here.ensures ∙ c.if-not-opens_here.true)

pub returns-then-text-stop : goal.returns-then-text-stop
returns-then-text-stop c = rw (sym c.opens_here.ensures ∙ c.if-not-opens_here.false, closes_none c.args.text.now c.args.i (search rules) (search rules))

pub returns-else-is_key : goal.returns-else-is_key
returns-else-is_key c = rw (sym c.opens_here.ensures ∙ c.if-not-opens_here.false, closes_some c.args.text.now c.args.i (search rules), sym c.is_key.ensures ∙ c.if-is_key.false) c.if-is_key.false

pub returns-then-is_key : goal.returns-then-is_key
returns-then-is_key c = rw (sym c.opens_here.ensures ∙ c.if-not-opens_here.false, closes_some c.args.text.now c.args.i (search rules), sym c.is_key.ensures ∙ c.if-is_key.true) c.gap_at.ensures
