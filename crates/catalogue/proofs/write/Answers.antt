use mathlib.Core.Path.{ap, ◌∙◌}
use Prim.Native.Nat.{ℕ}
use lib.ListN.{replicate}
use Rattle.paper.proofs.Options.{handed_on}
use Rattle.fold.proofs.Starts.{read_held}
use Rattle.catalogue.proofs.Promises.{unread, answered}
use Rattle.catalogue.proofs.write.Goals as goal

pub answer_read-answer-requires : goal.answer_read-answer-requires
answer_read-answer-requires c = read_held c.args.work.now _ c.in_ok-read.ensures

pub returns-in_err-read : goal.returns-in_err-read
returns-in_err-read c =
    rw (handed_on c.from_residual.result c.from_residual.ensures.1) (unread c.args.work.now _ c.in_err-read.ensures)

pub returns : goal.returns
returns c =
    answered c.args.work.now _ c.in_ok-read.ensures c.answer_read-answer.ensures
    (c.clear.ensures ∙ ap (λ (x : ℕ). replicate x 0) (c.answer_read-answer.auto.work ∙ c.read.auto.work))
