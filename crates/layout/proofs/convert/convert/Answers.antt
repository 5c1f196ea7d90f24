use mathlib.Core.Path.{sym, ◌∙◌}
use Rattle.layout.proofs.Renewing.{all_fit, converts_unfit, converts_short, converts_all}
use Rattle.layout.proofs.convert.convert.Goals as goal

pub returns-in-Some : goal.returns-in-Some
returns-in-Some c = converts_unfit (sym c.in-Some.is ∙ c.first_unfit.ensures)

pub returns-then-out-stream : goal.returns-then-out-stream
returns-then-out-stream c = converts_short _ _ (all_fit _ (sym c.in_default.is ∙ c.first_unfit.ensures)) c.if-out-stream.true

pub put_all-requires : goal.put_all-requires
put_all-requires c = all_fit _ (sym c.in_default.is ∙ c.first_unfit.ensures)

pub returns : goal.returns
returns c =
    converts_all (all_fit _ (sym c.in_default.is ∙ c.first_unfit.ensures)) c.if-out-stream.false c.put_all.ensures.0 c.put_all.ensures.1
