use mathlib.Core.Path.{◌≡◌}
use Rattle.paper.specs.Base.{sameb}
use Rattle.nameck.proofs.Search.{same_from}
use Rattle.nameck.proofs.intern.is_named.Given as goal

abbrev pub invariant-loop-i : goal.invariant-loop-i
invariant-loop-i l = same_from l.name l.s l.i ≡ sameb l.name l.s
