use mathlib.Core.Path.{◌∙◌}
use borrow.Author.Tests.{ne_eqb}
use Rattle.stream.proofs.Stubs.{if_old, if_other}
use Rattle.stream.proofs.walk.stub_if.Goals as goal

pub returns-then-kind-ne1 : goal.returns-then-kind-ne1
returns-then-kind-ne1 c = rw (ne_eqb _ _ c.if-kind-ne1.true) (if_other _ _ _ _ c.if-kind-ne1.true)

pub returns-else-kind-ne1 : goal.returns-else-kind-ne1
returns-else-kind-ne1 c = c.stub_after.ensures ∙ if_old _ _ _ _ c.if-kind-ne1.false
