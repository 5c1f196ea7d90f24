use Rattle.std.proofs.Common.{rules}
use Rattle.std.proofs.lemmas.Bool.Decides.{nat_tests}
use Rattle.paper.specs.Layout.{hypothesis_tail}
use Rattle.layout.proofs.cut.after_tag.Goals as goal

pub returns-in_default : goal.returns-in_default
unfolding hypothesis_tail
returns-in_default c = search (rules, nat_tests)
