use Rattle.slots.proofs.Kept.{room_kept}
use Rattle.checks.proofs.OverRows.{atoms_kept, dv_forgot}
use Rattle.checks.proofs.walks.check_dv.Goals as goal

pub walk_dv-p-requires : goal.walk_dv-p-requires
walk_dv-p-requires c = (rw c.requires.1 c.requires.0, c.requires.2)

pub forget_dv-requires : goal.forget_dv-requires
forget_dv-requires c = (room_kept c.walk_dv-p.ensures.kept c.requires.0.room, atoms_kept c.walk_dv-p.ensures.kept c.requires.0.atoms)

pub returns : goal.returns
returns c = dv_forgot (rw c.requires.1 at c.walk_dv-p.ensures) c.forget_dv.ensures
