use native.Mathlib.Omega.{arith}
use Rattle.forms.proofs.Essentials.{stack_place, size_begin, size_can, size_step}
use borrow.Author.Rules.{rules}
use Rattle.forms.proofs.pool.stack_length.Goals as goal

pub loop-k-init : goal.loop-k-init
loop-k-init c = size_begin _ _

pub overflow_add-sum : goal.overflow_add-sum
overflow_add-sum c =
    let e = c.essential_word-row.ensures in
    let p = stack_place c.requires.words (search rules) e 0 c.loop-k.invariant.few in
    let r = size_can c.requires (search rules) e in
    omega (arith, p, c.constants_length-sum.ensures.0, r.words.tokens, c.requires.words.small)

pub loop-k-preserved : goal.loop-k-preserved
loop-k-preserved c =
    size_step c.requires c.loop-k.invariant (search rules) c.essential_word-row.ensures c.constants_length-sum.ensures
