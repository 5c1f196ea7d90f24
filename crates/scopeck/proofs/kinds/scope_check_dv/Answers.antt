use mathlib.Core.Path.{refl, sym, ap}
use native.Mathlib.Omega.{arith}
use Rattle.slots.proofs.Kept.{room_kept}
use Rattle.scopeck.specs.Scope.{with_disjoint}
use Rattle.scopeck.proofs.Ready.{row_room, walk_of, part_counted, part_calm}
use Rattle.scopeck.proofs.Unlabelled.{dv_rejected, dv_accepted}
use Rattle.scopeck.proofs.kinds.scope_check_dv.Goals as goal

pub read-x-requires : goal.read-x-requires
read-x-requires c = (c.requires.0.holds.room, row_room c.requires.0.holds)

pub check_dv-p-requires : goal.check_dv-p-requires
check_dv-p-requires c =
    let b = c.requires.0 in (
      walk_of b.holds c.read-x.ensures,
      part_counted b.holds c.read-x.ensures b.part,
      part_calm b.holds c.read-x.ensures b.part,
    )

pub returns-then-p-st : goal.returns-then-p-st
returns-then-p-st c = dv_rejected c.read-x.ensures c.requires.1 c.check_dv-p.ensures refl c.if-p-st.true

pub push-requires : goal.push-requires
push-requires c =
    let b = c.requires.0.holds in
    (room_kept c.check_dv-p.ensures.kept b.room, omega (arith, row_room b, b.stands.disjoints), omega arith, omega (arith, row_room b))

pub overflow_add-result : goal.overflow_add-result
overflow_add-result c = let b = c.requires.0.holds in omega (arith, row_room b, b.stands.disjoints, b.room.small)

pub returns : goal.returns
returns c =
    dv_accepted c.read-x.ensures c.requires.1 c.check_dv-p.ensures (ap (with_disjoint c.args.st) (sym c.if-p-st.false)) c.if-p-st.false
    c.push.ensures
