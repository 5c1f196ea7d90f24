use mathlib.Core.Path.{sym, ap, ◌∙◌}
use Prim.Native.Nat.{ℕ}
use lib.Dec.{eqb}
use borrow.Author.Tests.{eq-eqb}
use Rattle.token.proofs.Classes.{class_white}
use Rattle.reader.proofs.Dollars.{opens_same, opens_other}
use Rattle.reader.proofs.comment.opens_here.Goals as goal

pub returns-then-i-at : goal.returns-then-i-at
returns-then-i-at c = eq-eqb _ _ c.if-i-at.true ∙ sym (opens_same _ _ _ c.if-i-at.true)

pub returns-else-i-at : goal.returns-else-i-at
returns-else-i-at c = ap (λ (n : ℕ). eqb n 1) c.class_of.ensures ∙ class_white _ ∙ sym (opens_other _ _ _ c.if-i-at.false)
