use mathlib.Core.Path.{◌≡◌}
use Prim.Native.Nat.{◌<◌}
use Rattle.nameck.specs.Links.{hash}
use Rattle.nameck.proofs.Hash.{hash_from}
use Rattle.nameck.proofs.intern.hash_of.Given as goal

abbrev pub invariant-loop-b : goal.invariant-loop-b
invariant-loop-b l = (l.h < 4294967296) × (hash_from l.h l.s l.b-index ≡ hash l.s)
