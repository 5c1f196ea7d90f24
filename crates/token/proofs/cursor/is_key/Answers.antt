use mathlib.Core.Path.{◌∙◌}
use borrow.Author.Rules.{rules}
use Rattle.token.proofs.Keys.{same_key}
use Rattle.token.proofs.cursor.is_key.Goals as goal

pub returns : goal.returns
returns c = c.eq.ensures ∙ rw c.as_slice.ensures (same_key c.args.s.now c.args.key (search rules))
