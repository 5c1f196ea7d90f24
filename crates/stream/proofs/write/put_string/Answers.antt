use native.Mathlib.Omega.{arith}
use Rattle.paper.specs.Records.{string}
use Rattle.stream.proofs.Wrote.{wrote_then}
use Rattle.stream.proofs.write.put_string.Goals as goal

pub returns : goal.returns
unfolding string
returns c = (omega arith, wrote_then c.put_u32-at.ensures.1 c.put_bytes.ensures.1)
