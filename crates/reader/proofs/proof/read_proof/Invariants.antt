use lib.ListN.{length}
use Rattle.token.specs.Words.{tokens_from, Lined}
use Rattle.reader.specs.Runs.{Proving}
use Rattle.reader.proofs.proof.read_proof.Given as goal

abbrev pub invariant-loop-x : goal.invariant-loop-x
invariant-loop-x l = Proving l.text l.initial.stop.at l.stop.at l.count × Lined l.text l.stop

abbrev pub decreases-loop-x : goal.decreases-loop-x
decreases-loop-x l = length (tokens_from l.text l.stop.at)
