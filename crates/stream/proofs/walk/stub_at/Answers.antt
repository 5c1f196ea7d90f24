use mathlib.Core.Path.{sym, ◌∙◌}
use native.Mathlib.Omega.{arith}
use Rattle.stream.proofs.Strings.{stops}
use Rattle.stream.proofs.Stubs.{at_none, at_string}
use Rattle.stream.proofs.walk.stub_at.Goals as goal

pub slice_bounds-is_stub-count : goal.slice_bounds-is_stub-count
slice_bounds-is_stub-count c = (stops _ _ _ _ (sym c.string_stop.ensures ∙ c.in-Some.is)).start

pub slice_bounds-is_stub-start : goal.slice_bounds-is_stub-start
slice_bounds-is_stub-start c = let s = stops _ _ _ _ (sym c.string_stop.ensures ∙ c.in-Some.is) in omega arith

pub slice_bounds-is_stub-end : goal.slice_bounds-is_stub-end
slice_bounds-is_stub-end c = let s = stops _ _ _ _ (sym c.string_stop.ensures ∙ c.in-Some.is) in omega arith

pub returns-in-Some : goal.returns-in-Some
returns-in-Some c = c.is_stub.ensures ∙ at_string _ _ _ (sym c.string_stop.ensures ∙ c.in-Some.is)

pub returns-in-None : goal.returns-in-None
returns-in-None c = at_none _ _ _ (sym c.string_stop.ensures ∙ c.in-None.is)
