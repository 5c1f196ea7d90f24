use native.Mathlib.Omega.{arith}
use Rattle.forms.proofs.Fragments.{fragments_begin, fragments_step, fragments_end}
use borrow.Author.Rules.{rules}
use Rattle.forms.proofs.expression.put_fragments.Goals as goal

pub loop-atom-init : goal.loop-atom-init
loop-atom-init c = fragments_begin _ _ _ _ _ _

pub loop-atom-preserved : goal.loop-atom-preserved
loop-atom-preserved c =
    let e = c.body-atom-items.ensures.atom _ c.loop-atom-test.true in
    fragments_step c.loop-atom.invariant (omega arith) e c.put_symbol-p.ensures

pub returns : goal.returns
returns c = fragments_end c.requires.0 c.loop-atom.invariant (search rules) c.put_u32-a.ensures c.put_u32-b.ensures
