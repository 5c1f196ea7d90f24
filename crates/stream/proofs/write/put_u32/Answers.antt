use mathlib.Core.Path.{◌≡◌}
use Prim.Native.Nat.{◌/◌}
use native.Mathlib.Omega.{arith}
use lib.ListN.{take}
use Rattle.paper.specs.Records.{le, u32}
use Rattle.stream.proofs.write.put_u32.Goals as goal

pub returns : goal.returns
unfolding u32 le
returns c =
    let n = c.args.n in
    let a : n / 65536 ≡ n / 256 / 256 = omega arith in
    let b : n / 16777216 ≡ n / 256 / 256 / 256 = omega arith in
    let e : take 4 c.to_le_bytes.result ≡ u32 n = rw (c.to_le_bytes.ensures, a, b) in
    rw e at c.put_bytes.ensures
