use native.Mathlib.Omega.{arith}
use Rattle.paper.proofs.Options.{handed_on}
use Rattle.fold.proofs.Starts.{some_whole}
use Rattle.catalogue.proofs.Numbers.{whole_again, many, short_frames, short_diags, all_done}
use Rattle.catalogue.proofs.streams.answer_read.Goals as goal

pub sizes-requires : goal.sizes-requires
sizes-requires c = some_whole c.start-at.ensures c.requires

pub returns-in_err-needs : goal.returns-in_err-needs
returns-in_err-needs c =
    rw (handed_on c.from_residual.result c.from_residual.ensures.1) (many c.start-at.ensures c.in_err-needs.ensures)

pub returns-then-frames-needs : goal.returns-then-frames-needs
returns-then-frames-needs c =
    rw c.refused.ensures (short_frames c.start-at.ensures c.in_ok-needs.ensures (omega arith))

pub fold_all-requires : goal.fold_all-requires
fold_all-requires c = whole_again c.start-at.ensures c.sizes.ensures c.requires

pub returns-then-diags-needs : goal.returns-then-diags-needs
returns-then-diags-needs c =
    rw c.refused-then-diags-needs.ensures
    (short_diags c.start-at.ensures c.in_ok-needs.ensures (omega (arith, c.if-frames-needs.false)) (omega (arith, c.if-diags-needs.true)))

pub returns : goal.returns
returns c =
    all_done c.start-at.ensures c.in_ok-needs.ensures (omega (arith, c.if-frames-needs.false)) (omega (arith, c.if-diags-needs.false))
    c.fold_all.ensures
