use mathlib.Core.Path.{sym, ◌∙◌}
use Rattle.slots.proofs.Marks.{mark_nothing, mark_at}
use Rattle.slots.proofs.mark.see.Goals as goal

pub returns-then-k-eq0 : goal.returns-then-k-eq0
returns-then-k-eq0 c =
    let e = mark_nothing _ _ _ (sym c.of_symbol-k.ensures ∙ c.if-k-eq0.true) in
    (sym e, rw e c.put_symbol.ensures)

pub returns : goal.returns
returns c =
    let e = mark_at _ _ _ c.of_symbol-k.ensures c.if-k-eq0.false in
    (sym e, rw e)
