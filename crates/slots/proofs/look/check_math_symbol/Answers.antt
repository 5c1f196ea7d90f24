use borrow.Author.Tests.{lt-ltb, le-ltb}
use Rattle.slots.proofs.Words.{sensed_by}
use Rattle.slots.proofs.look.check_math_symbol.Goals.{in_default-via-in-Some-Constant+else-g-here, in_default-via-in-Some-Variable+else-g-here-2, in_default-via-in_default}
use Rattle.slots.proofs.look.check_math_symbol.Goals as goal

pub returns-in-Some-Constant : goal.returns-in-Some-Constant
returns-in-Some-Constant c =
    sensed_by (rw c.in-Some-Constant.field-0-is at c.in-Some-Constant.ensures) (rw (lt-ltb _ _ c.if-g-here.true))

pub returns-in-Some-Variable : goal.returns-in-Some-Variable
returns-in-Some-Variable c =
    sensed_by (rw c.in-Some-Variable.field-0-is at c.in-Some-Variable.ensures) (rw (lt-ltb _ _ c.if-g-here-2.true))

pub returns-in_default : goal.returns-in_default
returns-in_default c =
    elim c.in_default.branch [
      | in_default-via-in-Some-Constant+else-g-here w ↦
          sensed_by (rw w.in-Some-Constant.field-0-is at w.in-Some-Constant.ensures)
          (rw (le-ltb _ _ w.if-g-here.false) c.by_nested.ensures)
      | in_default-via-in-Some-Variable+else-g-here-2 w ↦
          sensed_by (rw w.in-Some-Variable.field-0-is at w.in-Some-Variable.ensures)
          (rw (le-ltb _ _ w.if-g-here-2.false) c.by_nested.ensures)
      | in_default-via-in_default w ↦ sensed_by (rw w.in_default.is at c.lookup_symbol.ensures) c.by_nested.ensures
    ]
