use borrow.Author.Tests.{lt-ltb, le-ltb}
use Rattle.checks.proofs.Ones.{judged_one}
use Rattle.checks.proofs.tokens.verdict_of.Goals as goal

pub returns-in-Some-Constant : goal.returns-in-Some-Constant
returns-in-Some-Constant c =
    judged_one (rw c.in-Some-Constant.field-0-is at c.in-Some-Constant.ensures) (rw (lt-ltb _ _ c.if-g-offset.true))

pub returns-in-Some-Variable : goal.returns-in-Some-Variable
returns-in-Some-Variable c =
    judged_one (rw c.in-Some-Variable.field-0-is at c.in-Some-Variable.ensures) (rw (lt-ltb _ _ c.if-g-offset-2.true))

pub returns-in-Some-Constant-2 : goal.returns-in-Some-Constant-2
returns-in-Some-Constant-2 c =
    judged_one (rw c.in-Some-Constant.field-0-is at c.in-Some-Constant.ensures) (rw (le-ltb _ _ c.if-g-offset.false))

pub returns-in-Some-Variable-2 : goal.returns-in-Some-Variable-2
returns-in-Some-Variable-2 c =
    judged_one (rw c.in-Some-Variable.field-0-is at c.in-Some-Variable.ensures)
    (rw (le-ltb _ _ c.if-g-offset-2.false) c.by_known-in-Some-Variable-2.ensures)

pub returns-in-None : goal.returns-in-None
returns-in-None c = judged_one (rw c.in-None.is at c.lookup_symbol.ensures) c.by_known.ensures
