use native.Mathlib.Omega.{arith}
use Rattle.slots.proofs.Kept.{room_kept}
use Rattle.scopeck.proofs.Whole.{before_room, deep_ess, deep_dis, ready_of, steps_of}
use Rattle.scopeck.proofs.statements.check_statement.Goals as goal

pub of_statement-requires : goal.of_statement-requires
of_statement-requires c = let b = c.requires.holds in (b.room, before_room b, omega arith)

pub still_active-es-requires : goal.still_active-es-requires
still_active-es-requires c = deep_ess c.requires.holds

pub still_active-ds-requires : goal.still_active-ds-requires
still_active-ds-requires c = deep_dis c.requires.holds

pub check_kind-next-requires : goal.check_kind-next-requires
check_kind-next-requires c =
    record {
      of = c.requires.of;
      holds = ready_of c.requires.holds c.of_statement.ensures c.still_active-es.ensures c.still_active-ds.ensures;
    }

pub mark_accepted-requires : goal.mark_accepted-requires
mark_accepted-requires c =
    let b = c.requires.holds in
    (room_kept (c.check_kind-next.ensures.sim (ready_of b c.of_statement.ensures c.still_active-es.ensures c.still_active-ds.ensures)).kept b.room, before_room b)

pub returns : goal.returns
returns c =
    steps_of c.requires c.of_statement.ensures c.still_active-es.ensures c.still_active-ds.ensures c.check_kind-next.ensures c.mark_accepted.ensures
