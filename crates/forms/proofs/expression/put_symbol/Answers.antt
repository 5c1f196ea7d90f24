use mathlib.Core.Path.{sym, ◌∙◌}
use Rattle.forms.proofs.Fragments.{symbol_constant, symbol_variable}
use Rattle.forms.proofs.expression.put_symbol.Goals as goal

pub returns-then-is_constant : goal.returns-then-is_constant
returns-then-is_constant c = symbol_constant c.requires c.constant_length.ensures _ (sym c.is_constant.ensures ∙ c.if-is_constant.true)

pub returns : goal.returns
returns c = symbol_variable c.requires c.constant_length.ensures c.variable_number-variable.ensures (sym c.is_constant.ensures ∙ c.if-is_constant.false) c.put_fragment-at.ensures
