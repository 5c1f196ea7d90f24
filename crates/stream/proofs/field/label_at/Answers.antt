use mathlib.Core.Path.{sym, ◌∙◌}
use native.Mathlib.Omega.{arith}
use Rattle.stream.specs.Fields.{label_at}
use Rattle.stream.proofs.Search.{stands}
use Rattle.stream.proofs.field.label_at.Goals as goal

pub slice_bounds-result-count : goal.slice_bounds-result-count
slice_bounds-result-count c = (stands _ _ _ (sym c.record_at.ensures ∙ c.in-Some.is)).label

pub slice_bounds-result-start : goal.slice_bounds-result-start
slice_bounds-result-start c = let s = stands _ _ _ (sym c.record_at.ensures ∙ c.in-Some.is) in omega arith

pub slice_bounds-result-end : goal.slice_bounds-result-end
slice_bounds-result-end c = let s = stands _ _ _ (sym c.record_at.ensures ∙ c.in-Some.is) in omega arith

pub returns-in-Some : goal.returns-in-Some
unfolding label_at
returns-in-Some c = rw (sym c.record_at.ensures ∙ c.in-Some.is)

pub returns-in-None : goal.returns-in-None
unfolding label_at
returns-in-None c = rw (sym c.record_at.ensures ∙ c.in-None.is)
