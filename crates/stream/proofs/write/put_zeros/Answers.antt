use mathlib.Core.Path.{refl}
use Prim.Native.Nat.{ℕ}
use native.Mathlib.Omega.{arith}
use lib.ListN.{replicate, length-replicate}
use Rattle.std.proofs.Common.{rules}
use Rattle.stream.proofs.Wrote.{wrote_part, wrote_skip, wrote_to}
use Rattle.stream.proofs.write.put_zeros.Goals as goal

pub returns-then-end-out : goal.returns-then-end-out
returns-then-end-out c =
    let n = length-replicate {A = ℕ} c.args.n 0 in
    (refl, wrote_to (wrote_part _ _ _ _ (replicate c.args.n 0) (search rules) (omega (arith, n)) (omega (arith, n))) (omega (arith, n)))

pub returns-else-end-out : goal.returns-else-end-out
returns-else-end-out c = (refl, wrote_skip _ _ _ _ (omega (arith, length-replicate {A = ℕ} c.args.n 0)) c.if-end-out.false)
