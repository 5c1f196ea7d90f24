use mathlib.Core.Path.{sym, ◌∙◌}
use native.Mathlib.Omega.{arith}
use lib.ListN.{length-take, length-drop}
use Rattle.stream.proofs.Wrote.{wrote_then, wrote_as}
use Rattle.layout.proofs.Renewing.{renewed_other, renewed_old, part_rest}
use Rattle.layout.proofs.convert.put_renewed.Goals as goal

pub u16_at-requires : goal.u16_at-requires
u16_at-requires c = c.requires.1.room

pub returns-then-u16_at-ne1 : goal.returns-then-u16_at-ne1
returns-then-u16_at-ne1 c = (c.put_bytes.ensures.0, wrote_as c.put_bytes.ensures.1 (renewed_other _ (λ e. c.if-u16_at-ne1.true (c.u16_at.ensures.1 ∙ e))))

pub slice_bounds-put_bytes-end : goal.slice_bounds-put_bytes-end
slice_bounds-put_bytes-end c = simp length-take (omega (arith, c.requires.1.room))

pub put_bytes-at-requires : goal.put_bytes-at-requires
put_bytes-at-requires c = simp length-take (omega (arith, c.requires.1.room))

pub put_u16-at-requires : goal.put_u16-at-requires
put_u16-at-requires c = omega (arith, c.requires.1.room, simp length-take at c.put_bytes-at.ensures.0)

pub slice_bounds-put_lowered-count : goal.slice_bounds-put_lowered-count
slice_bounds-put_lowered-count c = omega (arith, c.requires.1.room)

pub slice_bounds-put_lowered-start : goal.slice_bounds-put_lowered-start
slice_bounds-put_lowered-start c = omega (arith, c.requires.1.room)

pub put_lowered-requires : goal.put_lowered-requires
put_lowered-requires c = (simp (length-take, length-drop) (omega (arith, c.requires.1.room, simp length-take at c.put_bytes-at.ensures.0)), rw (part_rest _ 6) (c.requires.1.old (sym c.u16_at.ensures.1 ∙ c.if-u16_at-ne1.false)))

pub returns : goal.returns
returns c = (omega (arith, c.requires.1.room, simp length-take at c.put_bytes-at.ensures.0, simp (length-take, length-drop) at c.put_lowered.ensures.0), wrote_as (wrote_then c.put_bytes-at.ensures.1 (wrote_then c.put_u16-at.ensures.1 (rw (part_rest _ 6) at c.put_lowered.ensures.1))) (renewed_old _ (sym c.u16_at.ensures.1 ∙ c.if-u16_at-ne1.false)))
