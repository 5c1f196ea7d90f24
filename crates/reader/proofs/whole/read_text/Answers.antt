use mathlib.Core.Path.{◌∙◌}
use Rattle.reader.proofs.Wholes.{ends_room, text_read}
use Rattle.reader.proofs.whole.read_text.Goals as goal

pub set_ends-requires : goal.set_ends-requires
set_ends-requires c = ends_room c.in-Ok.ensures

pub returns-in-Ok : goal.returns-in-Ok
returns-in-Ok c = text_read c.in-Ok.ensures c.set_ends.ensures c.clear_part.ensures c.clear_part-in-Ok.ensures _
    (c.clear_part-in-Ok.auto.work ∙ c.clear_part.auto.work ∙ c.set_ends.auto.work ∙ c.read_all.auto.work)
