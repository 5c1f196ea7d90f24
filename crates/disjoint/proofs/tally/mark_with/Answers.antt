use mathlib.Core.Path.{sym, ◌∙◌}
use Rattle.disjoint.proofs.Walks.{with_yes, with_no}
use Rattle.disjoint.proofs.tally.mark_with.Goals as goal

pub returns-then-names_number : goal.returns-then-names_number
returns-then-names_number c = with_yes _ (sym c.if-names_number.true ∙ c.names_number.ensures) c.mark_above.ensures

pub returns : goal.returns
returns c = with_no _ _ _ _ _ (sym c.if-names_number.false ∙ c.names_number.ensures)
