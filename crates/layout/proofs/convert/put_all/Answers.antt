use Prim.Native.Nat.{◌+◌}
use native.Mathlib.Omega.{arith}
use Rattle.layout.proofs.Streams.{stood}
use Rattle.layout.proofs.Renewing.{put_start, put_fits, put_next, put_end, from_slice, fits_renews}
use Rattle.layout.proofs.convert.put_all.Goals as goal

pub loop-at-init : goal.loop-at-init
loop-at-init c = put_start _ _ c.requires

pub overflow_add-end : goal.overflow_add-end
overflow_add-end c = omega (arith, (stood _ _ (put_fits c.loop-at.invariant c.loop-at-test.true)).within)

pub u32_at-requires : goal.u32_at-requires
u32_at-requires c = omega (arith, (stood _ _ (put_fits c.loop-at.invariant c.loop-at-test.true)).within)

pub overflow_add-end-in-loop-at : goal.overflow_add-end-in-loop-at
overflow_add-end-in-loop-at c = omega (arith, (stood _ _ (put_fits c.loop-at.invariant c.loop-at-test.true)).within, c.u32_at.ensures.1)

pub slice_bounds-put_renewed-start : goal.slice_bounds-put_renewed-start
slice_bounds-put_renewed-start c = omega (arith, (stood _ _ (put_fits c.loop-at.invariant c.loop-at-test.true)).within, c.u32_at.ensures.1)

pub slice_bounds-put_renewed-end : goal.slice_bounds-put_renewed-end
slice_bounds-put_renewed-end c = omega (arith, (stood _ _ (put_fits c.loop-at.invariant c.loop-at-test.true)).within, c.u32_at.ensures.1)

pub put_renewed-at-requires : goal.put_renewed-at-requires
put_renewed-at-requires c = rw (from_slice c.args.stream.now c.loop-at.at ((c.loop-at.at + 4) + c.u32_at.result) (omega (arith, c.u32_at.ensures.1))) (omega (arith, (stood _ _ (put_fits c.loop-at.invariant c.loop-at-test.true)).within, (stood _ _ (put_fits c.loop-at.invariant c.loop-at-test.true)).size), fits_renews _ (put_fits c.loop-at.invariant c.loop-at-test.true))

pub loop-at-smaller : goal.loop-at-smaller
loop-at-smaller c = omega (arith, rw (from_slice c.args.stream.now c.loop-at.at ((c.loop-at.at + 4) + c.u32_at.result) (omega (arith, c.u32_at.ensures.1))) at c.put_renewed-at.ensures.0, (stood _ _ (put_fits c.loop-at.invariant c.loop-at-test.true)).within, (stood _ _ (put_fits c.loop-at.invariant c.loop-at-test.true)).size)

pub loop-at-preserved : goal.loop-at-preserved
loop-at-preserved c = put_next c.loop-at.invariant c.loop-at-test.true (omega (arith, rw (from_slice c.args.stream.now c.loop-at.at ((c.loop-at.at + 4) + c.u32_at.result) (omega (arith, c.u32_at.ensures.1))) at c.put_renewed-at.ensures.0, (stood _ _ (put_fits c.loop-at.invariant c.loop-at-test.true)).size)) (rw (from_slice c.args.stream.now c.loop-at.at ((c.loop-at.at + 4) + c.u32_at.result) (omega (arith, c.u32_at.ensures.1))) at c.put_renewed-at.ensures.1)

pub shape_of-out : goal.shape_of-out
shape_of-out c = c.loop-at.invariant.wrote.len

pub returns : goal.returns
returns c = (omega (arith, c.loop-at.invariant.within), put_end c.loop-at.invariant (omega arith))
