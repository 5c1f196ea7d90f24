use mathlib.Core.Path.{sym, ◌∙◌}
use Rattle.paper.proofs.Options.{handed_on}
use Rattle.reader.proofs.Bodies.{run_room, row_room, kept_held, body_refused, body_some, body_lined, body_less, body_plain, body_proof}
use borrow.Author.Rules.{rules}
use Rattle.reader.proofs.item.read_body.Goals as goal

pub read_run-run-requires : goal.read_run-run-requires
read_run-run-requires c = (run_room c.requires, c.requires.lined)

pub returns-in_err-d : goal.returns-in_err-d
returns-in_err-d c = rw (handed_on c.from_residual.result c.from_residual.ensures.1)
    (body_refused c.requires (rw c.most.ensures at c.read_run-run.ensures) _
    (sym c.in_err-d.was ∙ (rw (c.least.ensures, c.closing.ensures) at c.close_run.ensures)))

pub read_rest-requires : goal.read_rest-requires
read_rest-requires c = let r = rw c.most.ensures at c.read_run-run.ensures in
    let q = sym c.in_ok-d.was ∙ (rw (c.least.ensures, c.closing.ensures) at c.close_run.ensures) in
    (body_proof c.requires r _ q c.in-P.is, body_lined c.requires r _ q)

pub keep-requires : goal.keep-requires
keep-requires c = let r = rw c.most.ensures at c.read_run-run.ensures in
    let q = sym c.in_ok-d.was ∙ (rw (c.least.ensures, c.closing.ensures) at c.close_run.ensures) in
    row_room c.requires r.run (body_some c.requires r _ q) (body_plain c.requires r _ q c.in_default.not-P) (search rules)

pub returns-in_default : goal.returns-in_default
returns-in_default c = let b = c.requires in
    let r = rw c.most.ensures at c.read_run-run.ensures in
    let q = sym c.in_ok-d.was ∙ (rw (c.least.ensures, c.closing.ensures) at c.close_run.ensures) in
    kept_held b r.run (body_some b r _ q) _ (body_plain b r _ q c.in_default.not-P) (search rules)
    c.number.ensures c.keep.ensures.0 c.keep.ensures.1 (body_less b r _ q) (body_lined b r _ q)
