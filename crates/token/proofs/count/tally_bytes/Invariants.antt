use Rattle.token.proofs.Counts.{Tallied}
use Rattle.token.proofs.count.tally_bytes.Given as goal

abbrev pub invariant-loop-b : goal.invariant-loop-b
invariant-loop-b l = Tallied l.text l.tokens l.bads l.before l.b-index
