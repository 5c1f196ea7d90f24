use mathlib.Core.Path.{sym}
use Prim.Native.Nat.{◌-◌, ◌/◌, ◌%◌, ◌^◌}
use borrow.Author.Tests.{lt-ltb, le-ltb}
use Rattle.nameck.specs.Links.{fork}
use Rattle.nameck.proofs.Hash.{bit_past}
use Rattle.nameck.proofs.intern.Name.fork_at.Goals as goal

pub returns-then-d-lt32 : goal.returns-then-d-lt32
unfolding fork
returns-then-d-lt32 c = rw (lt-ltb _ _ c.if-d-lt32.true, ← c.args.self.hashed_is)

pub returns-in-Some : goal.returns-in-Some
unfolding fork
returns-in-Some c = rw (le-ltb _ _ c.if-d-lt32.false, c.in-Some.ensures.lookup.3.1 0)

pub returns-in-None : goal.returns-in-None
unfolding fork
returns-in-None c =
    rw (le-ltb _ _ c.if-d-lt32.false)
    (sym (bit_past c.args.self.bytes.now ((c.args.d - 32) / 8) (2 ^ ((c.args.d - 32) % 8)) c.in-None.ensures.lookup.3))
