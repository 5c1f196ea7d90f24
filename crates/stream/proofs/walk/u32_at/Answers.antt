use mathlib.Core.Path.{◌≡◌}
use native.Mathlib.Omega.{arith}
use Prim.Native.Nat.{◌+◌}
use Rattle.paper.specs.Lookup.{u16_at, u32_at}
use Rattle.stream.proofs.walk.u32_at.Goals as goal

pub returns : goal.returns
unfolding u16_at u32_at
returns c =
    let at = c.args.at in
    let a = c.type_inv.bytes at in
    let b = c.type_inv.bytes (at + 1) in
    let d = c.type_inv.bytes (at + 2) in
    let e = c.type_inv.bytes (at + 3) in
    let t : (at + 2) + 1 ≡ at + 3 = omega arith in
    (omega arith, rw t (omega arith))
