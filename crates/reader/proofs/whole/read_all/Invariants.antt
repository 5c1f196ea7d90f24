use mathlib.Core.Path.{◌≡◌}
use lib.ListN.{length}
use Rattle.token.specs.Words.{tokens_from}
use Rattle.reader.specs.Held.{Held}
use Rattle.reader.proofs.whole.read_all.Given as goal

abbrev pub invariant-loop-r : goal.invariant-loop-r
invariant-loop-r l = Held l.text l.work l.n l.s × (length l.work ≡ length l.initial.work)

abbrev pub decreases-loop-r : goal.decreases-loop-r
decreases-loop-r l = length (tokens_from l.text l.s.cursor.at)
