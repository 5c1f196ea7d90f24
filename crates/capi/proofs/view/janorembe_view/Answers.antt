use Rattle.capi.proofs.Views.{viewed}
use Rattle.capi.proofs.view.janorembe_view.Goals as goal

pub returns : goal.returns
returns c = viewed c.facts_of-facts.ensures c.label_at-label.ensures c.told.ensures c.label_start.ensures c.told-2.ensures c.told-3.ensures c.told-4.ensures c.view_number.ensures
