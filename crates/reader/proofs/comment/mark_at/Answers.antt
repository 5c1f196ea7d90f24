use mathlib.Core.Path.{sym, ◌∙◌}
use borrow.Author.Tests.{lt-leb}
use Rattle.reader.proofs.Marks.{mark_none, mark_some}
use borrow.Author.Rules.{rules}
use Rattle.reader.proofs.comment.mark_at.Goals as goal

pub returns-then-is_key : goal.returns-then-is_key
returns-then-is_key c = rw (mark_some c.args.text.now c.args.i (search rules), sym c.is_key.ensures ∙ c.if-is_key.true) c.if-is_key.true

pub returns-else-is_key : goal.returns-else-is_key
returns-else-is_key c = rw (mark_some c.args.text.now c.args.i (search rules), sym c.is_key.ensures ∙ c.if-is_key.false) c.is_key-else-is_key.ensures

pub returns-else-stop-text : goal.returns-else-stop-text
returns-else-stop-text c = lt-leb _ _ c.if-stop-text.false ∙ sym (mark_none c.args.text.now c.args.i (search rules) (search rules))
