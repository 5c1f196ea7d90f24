use native.Mathlib.Omega.{arith}
use Rattle.reader.proofs.Hops.{hopped}
use Rattle.reader.proofs.proof.past_math.Goals as goal

pub hop-requires : goal.hop-requires
hop-requires c = (c.requires.1, c.start_of.ensures.from, omega (arith, c.start_of.ensures.upto, c.next_odd-k.ensures.upto.within))

pub returns : goal.returns
returns c = (rw c.hop.ensures.0 (hopped c.next_odd-k.ensures.upto c.start_of.ensures), c.hop.ensures.1)
