use Rattle.area.proofs.Laws.{word_at}
use Rattle.sight.proofs.Stacks.{all_start, all_can, all_step, all_end}
use borrow.Author.Rules.{rules}
use Rattle.sight.proofs.scan_all.Goals as goal

pub loop-k-init : goal.loop-k-init
loop-k-init c = all_start _ _ _ _ _ _

pub scan-v-requires : goal.scan-v-requires
scan-v-requires c = rw (word_at c.loop-k.work c.statement.ensures) (all_can c.loop-k.invariant c.requires (search rules))

pub loop-k-preserved : goal.loop-k-preserved
loop-k-preserved c = all_step c.loop-k.invariant c.requires (search rules) (word_at c.loop-k.work c.statement.ensures) c.scan-v.ensures

pub returns : goal.returns
returns c = all_end c.loop-k.invariant (search rules)
