use mathlib.Core.Path.{◌≡◌}
use Prim.Native.Nat.{◌≤◌, max}
use lib.ListN.{length}
use Rattle.token.specs.Words.{span_from}
use Rattle.token.proofs.cursor.Cursor.to_white.Given as goal

abbrev pub invariant-loop-at : goal.invariant-loop-at
invariant-loop-at l =
    (l.at ≤ max l.self.at (length l.text)) × (span_from l.text l.self l.at l.least ≡ span_from l.text l.self l.self.at 4)
