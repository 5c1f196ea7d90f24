use mathlib.Core.Path.{sym, ◌∙◌}
use Rattle.stream.proofs.Strings.{stops}
use Rattle.stream.proofs.Stubs.{after_none, after_string}
use Rattle.stream.proofs.walk.stub_after.Goals as goal

pub stub_at-requires : goal.stub_at-requires
stub_at-requires c = ((stops _ _ _ _ (sym c.string_stop.ensures ∙ c.in-Some.is)).within, c.requires.1)

pub returns-in-Some : goal.returns-in-Some
returns-in-Some c = c.stub_at.ensures ∙ after_string _ _ _ (sym c.string_stop.ensures ∙ c.in-Some.is)

pub returns-in-None : goal.returns-in-None
returns-in-None c = after_none _ _ _ (sym c.string_stop.ensures ∙ c.in-None.is)
