use Rattle.reader.proofs.Hops.{odd_class, plain_class, plain_next}
use borrow.Author.Rules.{rules}
use Rattle.reader.proofs.proof.next_odd.Goals as goal

pub returns-then-c-eq0 : goal.returns-then-c-eq0
returns-then-c-eq0 c = record { upto = c.loop-i.invariant; here = λ h. odd_class _ c.class_of-c.ensures c.then-c-eq0.either }

pub loop-i-preserved : goal.loop-i-preserved
loop-i-preserved c = plain_next c.loop-i.invariant (search rules) (plain_class _ c.class_of-c.ensures (search rules) (search rules))
