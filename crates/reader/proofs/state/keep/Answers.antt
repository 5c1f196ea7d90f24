use mathlib.Core.Path.{refl}
use Rattle.reader.proofs.Stores.{row_sets}
use Rattle.reader.proofs.state.keep.Goals as goal

pub returns : goal.returns
returns c = (
  row_sets _ _ _ _ _ _ _ _ _ _ _ _ _ _ c.statement.ensures c.statement-2.ensures c.statement-3.ensures
      c.statement-4.ensures c.statement-5.ensures c.statement-6.ensures c.statement-7.ensures,
  refl,
)
