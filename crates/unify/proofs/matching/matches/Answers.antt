use mathlib.Core.Path.{sym, ◌∙◌}
use borrow.Author.Tests.{ne_eqb}
use borrow.Author.Rules.{rules}
use Rattle.unify.proofs.Matches.{entry_other, entry_stops}
use Rattle.unify.proofs.matching.matches.Goals as goal

pub returns-then-stack-at : goal.returns-then-stack-at
returns-then-stack-at c = let a = c.args in
    entry_stops a.work.now a.n a.typecode.0 a.tokens.now a.stack.now a.at _ _ c.if-stack-at.true c.match_tokens.ensures (search rules)

pub returns-else-stack-at : goal.returns-else-stack-at
returns-else-stack-at c = let a = c.args in
    ne_eqb _ _ c.if-stack-at.false ∙ sym (entry_other a.work.now a.n a.typecode.0 a.tokens.now a.stack.now a.at c.if-stack-at.false)
