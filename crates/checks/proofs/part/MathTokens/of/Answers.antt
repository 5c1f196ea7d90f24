use Rattle.checks.proofs.Each.{going_start}
use Rattle.checks.proofs.part.MathTokens.of.Goals as goal

pub invariant_of-result : goal.invariant_of-result
invariant_of-result c = record { going = rw c.text_start.ensures (going_start c.requires.0 c.requires.1) }
