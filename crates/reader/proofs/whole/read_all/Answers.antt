use mathlib.Core.Path.{refl}
use Rattle.reader.proofs.Wholes.{held_start, all_open, all_done}
use Rattle.reader.proofs.whole.read_all.Goals as goal

pub loop-r-init : goal.loop-r-init
loop-r-init c = (held_start c.text_start.ensures c.requires, refl)

pub returns-then-s-ne0 : goal.returns-then-s-ne0
returns-then-s-ne0 c = let h = rw c.in_default.is at c.in_ok-r.ensures in
    rw c.open_text.ensures (all_open c.loop-r.invariant.0 h.0 c.if-s-ne0.true)

pub returns : goal.returns
returns c = let h = rw c.in_default.is at c.in_ok-r.ensures in
    rw h.1 (all_done c.loop-r.invariant.0 h.0 c.if-s-ne0.false)
