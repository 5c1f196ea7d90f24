use Rattle.checks.proofs.Good.{good_constant, good_variable}
use Rattle.checks.proofs.tokens.is_good.Goals as goal

pub returns-in-Constant : goal.returns-in-Constant
returns-in-Constant c = λ e. good_constant (rw c.in-Constant.is at c.check_math_symbol.ensures)

pub returns-then-spot-ne0 : goal.returns-then-spot-ne0
returns-then-spot-ne0 c =
    λ e.
    good_variable (rw c.in-Variable.is at c.check_math_symbol.ensures) c.lookup_float.ensures
    (rw c.is_some.ensures at e) c.if-spot-ne0.true
