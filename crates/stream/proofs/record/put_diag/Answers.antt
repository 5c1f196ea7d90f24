use mathlib.Core.Path.{refl}
use native.Mathlib.Omega.{arith}
use Rattle.paper.specs.Records.{diag_record, framed, u16, u32, le}
use Rattle.stream.proofs.Wrote.{wrote_then, wrote_skip}
use Rattle.stream.proofs.record.put_diag.Goals as goal

pub returns-then-out-end : goal.returns-then-out-end
unfolding diag_record framed u16 u32 le
returns-then-out-end c = (refl, record { wrote = wrote_skip _ _ _ _ refl c.if-out-end.true; short = λ h. refl })

pub returns : goal.returns
unfolding diag_record framed u16 u32 le
returns c = (
  omega arith,
  record {
    wrote =
        wrote_then c.put_u32-at.ensures.1
        (wrote_then c.put_u16-at.ensures.1
        (wrote_then c.put_u32-at-2.ensures.1
        (wrote_then c.put_u32-at-3.ensures.1 c.put_u32.ensures.1)));
    short = λ h. absurd (omega arith);
  },
)
