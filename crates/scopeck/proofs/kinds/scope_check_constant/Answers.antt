use mathlib.Core.Path.{refl}
use native.Mathlib.Omega.{arith}
use Rattle.scopeck.proofs.Ready.{row_room, small_place, walk_part}
use Rattle.scopeck.proofs.Unlabelled.{constant_outer, constant_nested}
use Rattle.scopeck.proofs.kinds.scope_check_constant.Goals as goal

pub read-x-requires : goal.read-x-requires
read-x-requires c = (c.requires.0.holds.room, row_room c.requires.0.holds)

pub put_nested_constant-p-requires : goal.put_nested_constant-p-requires
put_nested_constant-p-requires c = omega (arith, small_place c.requires.0.holds)

pub returns-then-x : goal.returns-then-x
returns-then-x c = constant_nested c.read-x.ensures refl c.requires.1 c.if-x.true c.put_nested_constant-p.ensures

pub walk_outer-p-requires : goal.walk_outer-p-requires
walk_outer-p-requires c = walk_part c.requires.0.holds c.read-x.ensures c.requires.0.part

pub returns : goal.returns
returns c = constant_outer c.read-x.ensures refl c.requires.1 c.if-x.false c.walk_outer-p.ensures
