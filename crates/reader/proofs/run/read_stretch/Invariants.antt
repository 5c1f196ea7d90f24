use lib.ListN.{length}
use Rattle.token.specs.Words.{tokens_from}
use Rattle.reader.specs.Runs.{Stretched}
use Rattle.reader.proofs.run.read_stretch.Given as goal

abbrev pub invariant-loop-x : goal.invariant-loop-x
invariant-loop-x l = Stretched l.text l.initial.work l.work l.n l.most l.first l.initial.stop l.initial.count (record { count = l.count; stop = l.stop })

abbrev pub decreases-loop-x : goal.decreases-loop-x
decreases-loop-x l = length (tokens_from l.text l.stop.at)
