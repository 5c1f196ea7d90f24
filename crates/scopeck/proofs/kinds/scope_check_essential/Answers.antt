use mathlib.Core.Path.{refl, sym, ap}
use native.Mathlib.Omega.{arith}
use Rattle.scopeck.specs.Scope.{with_essential}
use Rattle.scopeck.proofs.Ready.{row_room, can_labelled, walk_eap}
use Rattle.scopeck.proofs.Labelled.{borne_at, later_bearer, essential_rejected, essential_accepted}
use Rattle.scopeck.proofs.kinds.scope_check_essential.Goals as goal

pub read-x-requires : goal.read-x-requires
read-x-requires c = (c.requires.0.holds.room, row_room c.requires.0.holds)

pub check_label_dup-requires : goal.check_label_dup-requires
check_label_dup-requires c =
    let b = c.requires.0.holds in
    let q = can_labelled b c.read-x.ensures (omega (arith, c.requires.1)) in
    (q.room, q.atom, borne_at c.read-x.ensures b (omega (arith, c.requires.1)))

pub check_label-p-requires : goal.check_label-p-requires
check_label-p-requires c = can_labelled c.requires.0.holds c.read-x.ensures (omega (arith, c.requires.1))

pub returns-in_default : goal.returns-in_default
returns-in_default c =
    later_bearer c.read-x.ensures refl (omega (arith, c.requires.1)) (rw c.in_default.is at c.check_label_dup.ensures)
    c.check_label-p.ensures

pub check_eap-p-requires : goal.check_eap-p-requires
check_eap-p-requires c = let b = c.requires.0 in walk_eap b.holds c.read-x.ensures b.part

pub returns-then-p-st : goal.returns-then-p-st
returns-then-p-st c =
    let h = rw c.in-Some.is at c.check_label_dup.ensures in
    essential_rejected c.read-x.ensures c.check_eap-p.ensures refl c.requires.1 h c.if-p-st.true

pub push-requires : goal.push-requires
push-requires c =
    let b = c.requires.0.holds in
    (b.room, omega (arith, row_room b, b.stands.essentials), omega arith, omega (arith, row_room b))

pub overflow_add-result : goal.overflow_add-result
overflow_add-result c = let b = c.requires.0.holds in omega (arith, row_room b, b.stands.essentials, b.room.small)

pub returns : goal.returns
returns c =
    let h = rw c.in-Some.is at c.check_label_dup.ensures in
    essential_accepted c.read-x.ensures c.check_eap-p.ensures (ap (with_essential c.args.st) (sym c.if-p-st.false)) c.requires.1 h
    c.if-p-st.false c.push.ensures
