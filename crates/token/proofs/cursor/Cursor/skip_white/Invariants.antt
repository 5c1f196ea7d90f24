use mathlib.Core.Path.{◌≡◌}
use Prim.Native.Nat.{◌≤◌, max}
use lib.ListN.{length}
use Rattle.paper.specs.Lines.{line_at}
use Rattle.token.specs.Words.{past_gap}
use Rattle.token.proofs.cursor.Cursor.skip_white.Given as goal

abbrev pub invariant-loop-at : goal.invariant-loop-at
invariant-loop-at l =
    (l.at ≤ max l.fn.self.at (length l.text))
    × (past_gap l.text l.at ≡ past_gap l.text l.fn.self.at)
    × (l.line ≡ line_at l.text l.at)
    × (l.self.at ≡ l.fn.self.at)
