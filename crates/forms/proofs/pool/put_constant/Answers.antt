use mathlib.Core.Path.{sym, ◌∙◌}
use Rattle.forms.proofs.OneName.{constant_put, constant_none}
use Rattle.forms.proofs.pool.put_constant.Goals as goal

pub returns-then-not-is_constant : goal.returns-then-not-is_constant
returns-then-not-is_constant c = constant_none _ _ _ _ _ _ (sym c.is_constant.ensures ∙ c.if-not-is_constant.true)

pub returns : goal.returns
returns c = constant_put c.requires.0 c.name_part.ensures (sym c.is_constant.ensures ∙ c.if-not-is_constant.false) c.put_raised.ensures
