use mathlib.Core.Path.{sym, ap, ◌∙◌}
use Prim.Native.Nat.{ℕ}
use lib.Dec.{eqb}
use Rattle.token.proofs.Classes.{class_white}
use Rattle.reader.proofs.Dollars.{gap_some}
use borrow.Author.Rules.{rules}
use Rattle.reader.proofs.comment.gap_at.Goals as goal

pub returns-else-text-i : goal.returns-else-text-i
returns-else-text-i c = ap (λ (n : ℕ). eqb n 1) c.class_of.ensures ∙ class_white _ ∙ sym (gap_some c.args.text.now c.args.i (search rules))
