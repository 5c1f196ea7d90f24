use native.Mathlib.Omega.{arith}
use Rattle.forms.proofs.Constants.{sizes_begin, sizes_step}
use Rattle.forms.proofs.pool.constants_length.Goals as goal

pub loop-atom-init : goal.loop-atom-init
loop-atom-init c = sizes_begin _ _ _

pub loop-atom-preserved : goal.loop-atom-preserved
loop-atom-preserved c =
    let e = c.body-atom-items.ensures.atom _ c.loop-atom-test.true in
    sizes_step c.loop-atom.invariant (omega arith) e c.constant_length-sum.ensures
