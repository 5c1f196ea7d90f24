use mathlib.Core.Path.{refl}
use native.Mathlib.Omega.{arith}
use Rattle.std.proofs.lemmas.List.Edits.{paste_more}
use Rattle.stream.proofs.Wrote.{wrote_paste, wrote_skip}
use Rattle.stream.proofs.write.put_bytes.Goals as goal

pub loop-i-preserved : goal.loop-i-preserved
loop-i-preserved c = rw c.loop-i.invariant (paste_more c.args.out.now c.args.at c.args.bytes.now c.loop-i.i 0 (omega arith) c.loop-i-test.true)

pub returns-after-loop-i : goal.returns-after-loop-i
returns-after-loop-i c = (refl, wrote_paste _ _ _ _ _ c.loop-i.invariant (omega arith) c.if-end-out.true)

pub returns-else-end-out : goal.returns-else-end-out
returns-else-end-out c = (refl, wrote_skip _ _ _ _ refl c.if-end-out.false)
