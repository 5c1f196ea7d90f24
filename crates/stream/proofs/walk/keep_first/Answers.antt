use mathlib.Core.Path.{sym, ◌∙◌}
use Rattle.paper.proofs.Same.{bytes_same}
use Rattle.stream.proofs.walk.keep_first.Goals as goal

pub returns-in-None : goal.returns-in-None
returns-in-None c = rw (c.in-None.is, sym (bytes_same c.args.own.now c.args.label.now) ∙ sym c.eq.ensures ∙ c.if-eq.true)

pub returns-in_default : goal.returns-in_default
returns-in_default c = rw (c.in-None.is, sym (bytes_same c.args.own.now c.args.label.now) ∙ sym c.eq.ensures ∙ c.if-eq.false)
