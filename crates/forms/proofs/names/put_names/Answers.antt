use Rattle.forms.proofs.Variables.{names_begin, names_step, names_end}
use borrow.Author.Rules.{rules}
use Rattle.forms.proofs.names.put_names.Goals as goal

pub loop-k-init : goal.loop-k-init
loop-k-init c = names_begin _ _ _ _ _

pub loop-k-preserved : goal.loop-k-preserved
loop-k-preserved c = names_step c.loop-k.invariant c.bucket_word-atom.ensures c.put_name-a.ensures

pub returns : goal.returns
returns c = names_end c.loop-k.invariant (search rules)
