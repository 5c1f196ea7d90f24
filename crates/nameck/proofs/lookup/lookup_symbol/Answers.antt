use Rattle.nameck.proofs.Answers.{declared_none, declared_constant, declared_variable}
use Rattle.nameck.proofs.lookup.lookup_symbol.Goals as goal

pub returns-then-g-eq0 : goal.returns-then-g-eq0
returns-then-g-eq0 c = declared_none c.symbol.ensures c.if-g-eq0.true

pub returns-then-g-eq1 : goal.returns-then-g-eq1
returns-then-g-eq1 c = declared_constant c.symbol.ensures c.if-g-eq0.false c.if-g-eq1.true

pub returns-else-g-eq1 : goal.returns-else-g-eq1
returns-else-g-eq1 c = declared_variable c.symbol.ensures c.if-g-eq0.false c.if-g-eq1.false
