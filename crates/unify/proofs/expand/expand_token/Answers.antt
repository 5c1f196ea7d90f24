use mathlib.Core.Path.{sym, ◌∙◌}
use lib.ListN.{take}
use Rattle.unify.proofs.Matches.{token_constant, token_variable}
use Rattle.unify.proofs.expand.expand_token.Goals as goal

pub returns-then-is_constant : goal.returns-then-is_constant
returns-then-is_constant c = let a = c.args in
    rw (token_constant a.work.now a.n (take a.top a.stack.now) a.atom.0 (sym c.is_constant.ensures ∙ c.if-is_constant.true)) c.put_word.ensures

pub returns : goal.returns
returns c = let a = c.args in
    rw (token_variable a.work.now a.n (take a.top a.stack.now) a.atom.0 (sym c.is_constant.ensures ∙ c.if-is_constant.false), ← c.start_of-s.ensures) c.copy_part.ensures
