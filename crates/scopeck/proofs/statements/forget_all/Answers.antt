use mathlib.Core.Path.{◌≡◌, ap}
use native.Mathlib.Omega.{arith}
use lib.ListN.{length, length-set}
use Rattle.area.specs.Cells.{symbol_cell}
use Rattle.slots.proofs.Kept.{room_kept}
use Rattle.scopeck.proofs.Whole.{forgotten_none, forgotten_more}
use Rattle.scopeck.proofs.statements.forget_all.Goals as goal

pub loop-a-init : goal.loop-a-init
loop-a-init c = forgotten_none _ _

pub put_symbol-requires : goal.put_symbol-requires
put_symbol-requires c = (room_kept c.loop-a.invariant.kept c.requires.0, omega (arith, c.requires.1), omega arith)

pub put_symbol-requires-in-loop-a : goal.put_symbol-requires-in-loop-a
put_symbol-requires-in-loop-a c =
    let r = room_kept c.loop-a.invariant.kept c.requires.0 in (
      record { room = omega (arith, r.room, ap length c.put_symbol.ensures, length-set c.loop-a.work (symbol_cell c.args.n c.loop-a.a 3) 0); small = r.small },
      omega (arith, c.requires.1),
      omega arith,
    )

pub loop-a-preserved : goal.loop-a-preserved
loop-a-preserved c =
    forgotten_more c.requires.0 (omega (arith, c.requires.1)) c.loop-a.invariant c.put_symbol.ensures c.put_symbol-in-loop-a.ensures

pub returns : goal.returns
returns c = let q : c.loop-a.a ≡ c.args.names = omega arith in rw q at c.loop-a.invariant
