use native.Mathlib.Omega.{arith}
use Prim.Native.Nat.{◌+◌}
use Rattle.paper.specs.Lookup.{u16_at}
use Rattle.stream.proofs.walk.u16_at.Goals as goal

pub returns : goal.returns
unfolding u16_at
returns c =
    let a = c.type_inv.bytes c.args.at in
    let b = c.type_inv.bytes (c.args.at + 1) in
    (omega arith, omega arith)
