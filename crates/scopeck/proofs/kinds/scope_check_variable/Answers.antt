use mathlib.Core.Path.{refl}
use Rattle.scopeck.proofs.Ready.{row_room, walk_part}
use Rattle.scopeck.proofs.Unlabelled.{variable_outer, variable_nested}
use Rattle.scopeck.proofs.kinds.scope_check_variable.Goals as goal

pub read-x-requires : goal.read-x-requires
read-x-requires c = (c.requires.0.holds.room, row_room c.requires.0.holds)

pub walk_nested-p-requires : goal.walk_nested-p-requires
walk_nested-p-requires c = walk_part c.requires.0.holds c.read-x.ensures c.requires.0.part

pub returns-then-x : goal.returns-then-x
returns-then-x c = variable_nested c.read-x.ensures refl c.requires.1 c.if-x.true c.walk_nested-p.ensures

pub walk_outer-p-requires : goal.walk_outer-p-requires
walk_outer-p-requires c = walk_part c.requires.0.holds c.read-x.ensures c.requires.0.part

pub returns : goal.returns
returns c = variable_outer c.read-x.ensures refl c.requires.1 c.if-x.false c.walk_outer-p.ensures
