use native.Mathlib.Omega.{arith}
use Rattle.stream.proofs.Wrote.{wrote_then}
use Rattle.stream.proofs.Records.{wrote_stub}
use Rattle.stream.proofs.record.put_stub.Goals as goal

pub returns : goal.returns
returns c = (
  omega arith,
  wrote_stub _ _ _ _ _ (omega arith) c.put_u32-at.ensures.1
      (wrote_then c.put_u16-at.ensures.1
      (wrote_then c.put_u32-at-2.ensures.1
      (wrote_then c.put_u32-at-3.ensures.1
      (wrote_then c.put_string-at.ensures.1
      (wrote_then c.put_string-at-2.ensures.1 c.put_string.ensures.1))))),
)
