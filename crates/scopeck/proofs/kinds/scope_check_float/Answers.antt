use mathlib.Core.Path.{refl, sym, ap}
use native.Mathlib.Omega.{arith}
use Rattle.scopeck.specs.Scope.{moved}
use Rattle.scopeck.proofs.Ready.{row_room, can_labelled, can_float, walk_of, part_counted, part_calm, two_of}
use Rattle.scopeck.proofs.Labelled.{borne_at, later_bearer}
use Rattle.scopeck.proofs.Floating.{float_rejected, float_accepted}
use Rattle.scopeck.proofs.kinds.scope_check_float.Goals as goal

pub read-x-requires : goal.read-x-requires
read-x-requires c = (c.requires.0.holds.room, row_room c.requires.0.holds)

pub check_label_dup-requires : goal.check_label_dup-requires
check_label_dup-requires c =
    let b = c.requires.0.holds in
    let q = can_labelled b c.read-x.ensures (omega (arith, c.requires.1)) in
    (q.room, q.atom, borne_at c.read-x.ensures b (omega (arith, c.requires.1)))

pub check_label-p-requires : goal.check_label-p-requires
check_label-p-requires c = can_labelled c.requires.0.holds c.read-x.ensures (omega (arith, c.requires.1))

pub returns-in_default : goal.returns-in_default
returns-in_default c =
    later_bearer c.read-x.ensures refl (omega (arith, c.requires.1)) (rw c.in_default.is at c.check_label_dup.ensures)
    c.check_label-p.ensures

pub float_tokens-two-requires : goal.float_tokens-two-requires
float_tokens-two-requires c =
    let b = c.requires.0.holds in
    let e = c.read-x.ensures in
    let q = c.requires.0.part in
    (b.room, omega (arith, (walk_of b e).atoms.rows, part_counted b e q), part_calm b e q)

pub check_float-p-requires : goal.check_float-p-requires
check_float-p-requires c =
    let two = two_of c.requires.0.holds c.read-x.ensures c.requires.1 c.requires.0.part c.float_tokens-two.ensures in
    can_float c.requires.0.holds c.read-x.ensures c.requires.1 two.0 two.1

pub returns-then-st-p : goal.returns-then-st-p
returns-then-st-p c =
    let two = two_of c.requires.0.holds c.read-x.ensures c.requires.1 c.requires.0.part c.float_tokens-two.ensures in
    let h = rw c.in-Some.is at c.check_label_dup.ensures in
    float_rejected c.read-x.ensures c.requires.1 h two.0 two.1 c.check_float-p.ensures refl
    (λ q. omega (arith, q, c.if-st-p.true))

pub overflow_cast-row : goal.overflow_cast-row
overflow_cast-row c = let b = c.requires.0.holds in omega (arith, row_room b, b.room.small)

pub record_float-requires : goal.record_float-requires
record_float-requires c =
    let b = c.requires.0.holds in
    let two = two_of b c.read-x.ensures c.requires.1 c.requires.0.part c.float_tokens-two.ensures in
    (b.room, (can_float b c.read-x.ensures c.requires.1 two.0 two.1).1.atom, omega (arith, row_room b))

pub returns : goal.returns
returns c =
    let two = two_of c.requires.0.holds c.read-x.ensures c.requires.1 c.requires.0.part c.float_tokens-two.ensures in
    let h = rw c.in-Some.is at c.check_label_dup.ensures in
    float_accepted c.read-x.ensures c.requires.1 h two.0 two.1 c.check_float-p.ensures
    (ap (moved c.args.st) c.if-st-p.false) (sym c.if-st-p.false) c.record_float.ensures
