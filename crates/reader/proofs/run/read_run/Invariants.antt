use lib.ListN.{length}
use Rattle.token.specs.Words.{tokens_from, Lined}
use Rattle.reader.specs.Runs.{Running}
use Rattle.reader.proofs.run.read_run.Given as goal

abbrev pub invariant-loop-x : goal.invariant-loop-x
invariant-loop-x l = Running l.text l.initial.work l.work l.n l.initial.stop.at l.most l.first l.stop.at l.count × Lined l.text l.stop

abbrev pub decreases-loop-x : goal.decreases-loop-x
decreases-loop-x l = length (tokens_from l.text l.stop.at)
