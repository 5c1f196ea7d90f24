use mathlib.Core.Path.{◌≡◌}
use Rattle.nameck.proofs.Hash.{Hashing}
use Rattle.nameck.proofs.naming.hash_token.Given as goal

abbrev pub invariant-loop-i : goal.invariant-loop-i
invariant-loop-i l = (l.x.stop ≡ l.i) × Hashing l.part l.at l.x.hash l.i
