use mathlib.Core.Path.{ap}
use Prim.Native.Nat.{ℕ, ◌+◌}
use native.Mathlib.Omega.{arith}
use lib.ListN.{set}
use Rattle.nameck.proofs.Search.{found_few}
use Rattle.nameck.proofs.Added.{ended_in, intern_old, intern_new}
use Rattle.nameck.proofs.intern.intern.Goals as goal

pub overflow_cast-result : goal.overflow_cast-result
overflow_cast-result c = omega (arith, c.requires.0.spans.rows, c.requires.0.spans.small, found_few _ _ _ _ _ _ c.in-Ok.ensures)

pub returns-in-Ok : goal.returns-in-Ok
returns-in-Ok c = intern_old c.requires.0 c.in-Ok.ensures

pub offset_bounds-work-cell : goal.offset_bounds-work-cell
offset_bounds-work-cell c = omega (arith, ended_in c.requires.0 c.in-Err.ensures.1, c.requires.0.spans.small)

pub bounds-work-cell : goal.bounds-work-cell
bounds-work-cell c = omega (arith, ended_in c.requires.0 c.in-Err.ensures.1, c.requires.0.spans.room, c.add_name.auto.work)

pub returns : goal.returns
returns c = intern_new c.requires.0 c.in-Err.ensures c.add_name.ensures (ap (λ (k : ℕ). set c.add_name.new.work k (c.args.names + 1)) (omega arith))
