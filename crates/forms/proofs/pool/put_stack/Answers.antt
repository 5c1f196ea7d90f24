use native.Mathlib.Omega.{arith}
use Rattle.forms.proofs.Essentials.{stack_row, stack_place, stack_begin, stack_step}
use borrow.Author.Rules.{rules}
use Rattle.forms.proofs.pool.put_stack.Goals as goal

pub loop-k-init : goal.loop-k-init
loop-k-init c = stack_begin _ _ _ _ _

pub put_constants-a-requires : goal.put_constants-a-requires
put_constants-a-requires c =
    let e = c.essential_word-row.ensures in
    let p = stack_place c.requires.0 (search rules) e c.args.at c.loop-k.invariant.few in
    (stack_row c.requires.0 (search rules) e, omega (arith, p, c.requires.1))

pub loop-k-preserved : goal.loop-k-preserved
loop-k-preserved c =
    stack_step c.requires.0 c.loop-k.invariant (search rules) c.essential_word-row.ensures c.put_constants-a.ensures
