use mathlib.Core.Path.{sym, ap, ◌∙◌}
use native.Mathlib.Omega.{arith}
use Rattle.paper.specs.Base.{sameb}
use Rattle.nameck.proofs.Search.{same_whole, same_length_ne, same_differ, same_step, same_end, row_order, row_within, row_name}
use Rattle.nameck.proofs.intern.is_named.Goals as goal

pub slice_bounds-name-count : goal.slice_bounds-name-count
slice_bounds-name-count c = row_order c.args.row c.requires c.name.ensures c.name-2.ensures

pub slice_bounds-name-start : goal.slice_bounds-name-start
slice_bounds-name-start c = row_order c.args.row c.requires c.name.ensures c.name-2.ensures

pub slice_bounds-name-end : goal.slice_bounds-name-end
slice_bounds-name-end c = row_within c.args.row c.requires c.name.ensures c.name-2.ensures

pub loop-i-init : goal.loop-i-init
loop-i-init c = same_whole _ _

pub returns-then-name-s : goal.returns-then-name-s
returns-then-name-s c =
    sym (same_length_ne _ _ c.if-name-s.true)
    ∙ ap (λ x. sameb x c.args.s.now) (row_name _ _ _ _ _ _ c.name.ensures c.name-2.ensures)

pub returns-then-name-i : goal.returns-then-name-i
returns-then-name-i c =
    sym (same_differ _ _ _ (omega arith) (omega arith) (λ e. omega (arith, e, c.if-name-i.true)))
    ∙ c.loop-i.invariant
    ∙ ap (λ x. sameb x c.args.s.now) (row_name _ _ _ _ _ _ c.name.ensures c.name-2.ensures)

pub loop-i-preserved : goal.loop-i-preserved
loop-i-preserved c =
    same_step _ _ _ (omega arith) (omega arith) (omega (arith, c.if-name-i.false)) ∙ c.loop-i.invariant

pub returns : goal.returns
returns c =
    sym (same_end _ _ _ (omega arith) (omega arith))
    ∙ c.loop-i.invariant
    ∙ ap (λ x. sameb x c.args.s.now) (row_name _ _ _ _ _ _ c.name.ensures c.name-2.ensures)
