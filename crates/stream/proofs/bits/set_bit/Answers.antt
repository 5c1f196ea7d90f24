use mathlib.Core.Path.{sym}
use Rattle.stream.proofs.Bit.{with_off, with_on}
use Rattle.stream.proofs.bits.set_bit.Goals as goal

pub returns-then-i-bytes : goal.returns-then-i-bytes
returns-then-i-bytes c = with_on _ _ _

pub returns-else-i-bytes : goal.returns-else-i-bytes
returns-else-i-bytes c = sym (with_off _ _ _ c.if-i-bytes.false)
