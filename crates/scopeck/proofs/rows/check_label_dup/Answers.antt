use borrow.Author.Tests.{eq-eqb, ne_eqb}
use Rattle.scopeck.proofs.Owners.{not_nobody, owns_by}
use Rattle.scopeck.proofs.rows.check_label_dup.Goals as goal

pub unreachable-requires : goal.unreachable-requires
unreachable-requires c = not_nobody c.requires.2 (rw c.in_default.is at c.lookup_label.ensures)

pub returns-then-o-s : goal.returns-then-o-s
returns-then-o-s c = owns_by (rw c.in-Some.is at c.lookup_label.ensures) (rw (eq-eqb _ _ c.if-o-s.true))

pub returns : goal.returns
returns c = owns_by (rw c.in-Some.is at c.lookup_label.ensures) (rw (ne_eqb _ _ c.if-o-s.false))
