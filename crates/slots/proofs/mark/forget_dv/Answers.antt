use native.Mathlib.Omega.{arith}
use Rattle.slots.proofs.Kept.{room_kept}
use Rattle.slots.proofs.Marks.{atom_of_row, forget_step, forget_end}
use Rattle.slots.proofs.mark.forget_dv.Goals as goal

pub put_symbol-requires : goal.put_symbol-requires
put_symbol-requires c = (
  room_kept c.loop-row.invariant.kept c.requires.0,
  atom_of_row c.requires.1 c.loop-row.invariant.kept (omega arith) (omega arith) c.of_math-a.ensures,
  omega arith,
)

pub loop-row-preserved : goal.loop-row-preserved
loop-row-preserved c =
    forget_step c.requires.0 (omega arith) (omega arith) (omega arith)
    (atom_of_row c.requires.1 c.loop-row.invariant.kept (omega arith) (omega arith) c.of_math-a.ensures)
    c.of_math-a.ensures c.put_symbol.ensures c.loop-row.invariant

pub returns : goal.returns
returns c = forget_end (omega arith) c.loop-row.invariant
