use mathlib.Core.Path.{◌≡◌, sym}
use Prim.Native.Nat.{◌+◌, ◌/◌}
use lib.ListN.{get_or}
use Rattle.std.proofs.Common.{rules}
use Rattle.stream.specs.Bits.{bit_at, lit}
use Rattle.stream.proofs.Bit.{bit_off}
use Rattle.stream.proofs.bits.bit_at.Goals as goal

pub returns-in-Some : goal.returns-in-Some
unfolding bit_at lit
returns-in-Some c =
    let e : c.in-Some.byte.now ≡ get_or c.args.bytes.now (c.args.at + c.args.j / 8) 0 = search rules in
    rw e

pub returns-in-None : goal.returns-in-None
returns-in-None c = sym (bit_off _ _ _ (search rules))
