use mathlib.Core.Path.{sym, ◌∙◌}
use Rattle.stream.specs.Fields.{kind_at}
use Rattle.stream.proofs.field.kind_at.Goals as goal

pub returns-in_err-record_at : goal.returns-in_err-record_at
unfolding kind_at
returns-in_err-record_at c = rw (sym c.record_at.ensures ∙ c.in_err-record_at.was) c.from_residual.ensures

pub returns : goal.returns
unfolding kind_at
returns c = rw (sym c.record_at.ensures ∙ c.in_ok-record_at.was)
