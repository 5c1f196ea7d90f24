use Rattle.unify.proofs.Entries.{stops}
use borrow.Author.Rules.{rules}
use Rattle.unify.proofs.matching.stops_at.Goals as goal

pub returns : goal.returns
returns c = stops c.args.stack.now c.args.p _ (λ h. search rules) (λ h. search rules)
