use Prim.Native.Nat.{◌-◌, ◌*◌, ◌<◌}
use Rattle.area.specs.Cells.{word}
use Rattle.nameck.specs.Table.{name_at}
use Rattle.nameck.proofs.Found.{Walk}
use Rattle.nameck.proofs.intern.find.Given as goal

abbrev pub invariant-loop-before : goal.invariant-loop-before
invariant-loop-before l =
    (l.cell < 15 * l.n)
    × Walk l.work l.n l.names (name_at l.text l.work l.n) l.name.bytes.now l.cell (word l.work l.cell) l.d

abbrev pub decreases-loop-before : goal.decreases-loop-before
decreases-loop-before l = l.names - l.d
