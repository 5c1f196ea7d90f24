use mathlib.Core.Path.{sym, ◌∙◌}
use Rattle.paper.proofs.Options.{handed_on}
use Rattle.reader.proofs.Bodies.{proof_refused, proof_room, proof_held}
use Rattle.reader.proofs.item.read_rest.Goals as goal

pub returns-in_err-d : goal.returns-in_err-d
returns-in_err-d c = rw (handed_on c.from_residual.result c.from_residual.ensures.1)
    (proof_refused c.requires.0 c.read_proof-proof.ensures _ (sym c.in_err-d.was ∙ c.close_run.ensures))

pub keep-requires : goal.keep-requires
keep-requires c = proof_room c.requires.0 c.read_proof-proof.ensures _ (sym c.in_ok-d.was ∙ c.close_run.ensures)

pub returns : goal.returns
returns c = proof_held c.requires.0 c.read_proof-proof.ensures _ (sym c.in_ok-d.was ∙ c.close_run.ensures) c.number.ensures c.keep.ensures.0 c.keep.ensures.1
