use native.Mathlib.Omega.{arith}
use Rattle.forms.proofs.Constants.{constants_begin, constants_step, constants_end}
use borrow.Author.Rules.{rules}
use Rattle.forms.proofs.pool.put_constants.Goals as goal

pub loop-atom-init : goal.loop-atom-init
loop-atom-init c = constants_begin _ _ _ _ _ _

pub loop-atom-preserved : goal.loop-atom-preserved
loop-atom-preserved c =
    let e = c.body-atom-items.ensures.atom _ c.loop-atom-test.true in
    constants_step c.loop-atom.invariant (omega arith) e c.put_constant-a.ensures

pub returns : goal.returns
returns c = constants_end c.loop-atom.invariant (search rules)
