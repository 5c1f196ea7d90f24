use mathlib.Core.Path.{sym, ◌∙◌}
use Rattle.paper.specs.Tokens.{key}
use Rattle.reader.proofs.kind.plain_code.Goals as goal

pub returns-then-is_key : goal.returns-then-is_key
unfolding key
returns-then-is_key c = rw (sym c.is_key.ensures ∙ c.if-is_key.true)

pub returns-then-is_key-2 : goal.returns-then-is_key-2
unfolding key
returns-then-is_key-2 c = rw (sym c.is_key.ensures ∙ c.if-is_key.false, sym c.is_key-2.ensures ∙ c.if-is_key-2.true)

pub returns-then-is_key-3 : goal.returns-then-is_key-3
unfolding key
returns-then-is_key-3 c = rw (sym c.is_key.ensures ∙ c.if-is_key.false, sym c.is_key-2.ensures ∙ c.if-is_key-2.false, sym c.is_key-3.ensures ∙ c.if-is_key-3.true)

pub returns : goal.returns
unfolding key
returns c = rw (sym c.is_key.ensures ∙ c.if-is_key.false, sym c.is_key-2.ensures ∙ c.if-is_key-2.false, sym c.is_key-3.ensures ∙ c.if-is_key-3.false)
