use mathlib.Core.Path.{sym, ◌∙◌}
use native.Mathlib.Omega.{arith}
use Rattle.stream.proofs.Search.{stands, walk_start, walk_bad, walk_step, walk_end}
use borrow.Author.Rules.{rules}
use Rattle.stream.proofs.walk.lookup.Goals as goal

pub loop-at-init : goal.loop-at-init
loop-at-init c = walk_start _ _

pub returns-in_default : goal.returns-in_default
returns-in_default c = walk_bad c.loop-at.invariant (search rules) (sym c.record_at.ensures ∙ c.in_default.is)

pub slice_bounds-keep_first-count : goal.slice_bounds-keep_first-count
slice_bounds-keep_first-count c = (stands _ _ _ (sym c.record_at.ensures ∙ c.in-Some.is)).label

pub slice_bounds-keep_first-start : goal.slice_bounds-keep_first-start
slice_bounds-keep_first-start c = omega (arith, (stands _ _ _ (sym c.record_at.ensures ∙ c.in-Some.is)).label, (stands _ _ _ (sym c.record_at.ensures ∙ c.in-Some.is)).stop, (stands _ _ _ (sym c.record_at.ensures ∙ c.in-Some.is)).within)

pub slice_bounds-keep_first-end : goal.slice_bounds-keep_first-end
slice_bounds-keep_first-end c = omega (arith, (stands _ _ _ (sym c.record_at.ensures ∙ c.in-Some.is)).stop, (stands _ _ _ (sym c.record_at.ensures ∙ c.in-Some.is)).within)

pub loop-at-smaller : goal.loop-at-smaller
loop-at-smaller c = omega (arith, (stands _ _ _ (sym c.record_at.ensures ∙ c.in-Some.is)).after, (stands _ _ _ (sym c.record_at.ensures ∙ c.in-Some.is)).within)

pub loop-at-preserved : goal.loop-at-preserved
loop-at-preserved c = walk_step c.loop-at.invariant (search rules) (sym c.record_at.ensures ∙ c.in-Some.is) c.keep_first-found.ensures

pub returns : goal.returns
returns c = walk_end c.loop-at.invariant (search rules)
