use mathlib.Core.Path.{sym, ◌∙◌}
use Rattle.reader.proofs.Items.{label_end, label_refused, label_bad, label_begun}
use Rattle.paper.proofs.Options.{handed_on}
use Rattle.reader.proofs.Looks.{shown}
use Rattle.reader.proofs.item.read_labelled.Goals as goal

pub returns-in_err-y : goal.returns-in_err-y
returns-in_err-y c = rw (handed_on c.from_residual.result c.from_residual.ensures.1)
    (label_refused c.requires.0 c.requires.1 c.requires.2 c.in_err-y.ensures)

pub returns-in_default : goal.returns-in_default
returns-in_default c = rw c.open_text.ensures (label_end c.requires.0 c.requires.1 c.requires.2 (rw c.in_default.is at c.in_ok-y.ensures))

pub returns-in_default-label_code : goal.returns-in_default-label_code
returns-in_default-label_code c = let y = shown c.in_ok-y.was c.in-Some.is c.next_visible.ensures in
    rw c.bad_token.ensures (label_bad c.requires.0 c.requires.1 c.requires.2 y (sym c.in_default-label_code.is ∙ c.label_code.ensures))

pub read_body-requires : goal.read_body-requires
read_body-requires c = let y = shown c.in_ok-y.was c.in-Some.is c.next_visible.ensures in
    label_begun c.requires.0 c.requires.1 c.requires.2 y (sym c.in-Some-label_code.is ∙ c.label_code.ensures)
