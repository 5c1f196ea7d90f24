use native.Mathlib.Omega.{arith}
use borrow.Author.Tests.{le-leb}
use Rattle.reader.proofs.Passes.{passed_few}
use Rattle.reader.proofs.Runs.{proving_start, proving_more, proving_on}
use Rattle.reader.proofs.Looks.{shown}
use Rattle.reader.proofs.proof.read_proof.Goals as goal

pub loop-x-init : goal.loop-x-init
loop-x-init c = (proving_start _ _, c.requires)

pub loop-x-smaller : goal.loop-x-smaller
loop-x-smaller c = let s = shown c.in-Ok-Some.is (rw c.in-Ok-Some.is at c.in-Ok-Some.field-0-is) c.next_visible-after.ensures in
    omega (arith, passed_few s.passed, passed_few c.past_math-stop.ensures.0.passed)

pub loop-x-preserved : goal.loop-x-preserved
loop-x-preserved c = let s = shown c.in-Ok-Some.is (rw c.in-Ok-Some.is at c.in-Ok-Some.field-0-is) c.next_visible-after.ensures in
    (proving_on (proving_more c.loop-x.invariant.0 s (le-leb 3 _ c.if-x-lt3.false)) c.past_math-stop.ensures.0, c.past_math-stop.ensures.1)
