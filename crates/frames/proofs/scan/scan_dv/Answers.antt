use Rattle.area.proofs.Laws.{word_at}
use Rattle.sight.proofs.Stacks.{all_can, all_end}
use Rattle.frames.proofs.Outer.{deep_stack, can_lower, onward_start, onward_step}
use borrow.Author.Rules.{rules}
use Rattle.frames.proofs.scan.scan_dv.Goals as goal

pub lookup_global_dv-outer-requires : goal.lookup_global_dv-outer-requires
lookup_global_dv-outer-requires c = deep_stack c.requires

pub scan_all-v-requires : goal.scan_all-v-requires
scan_all-v-requires c = can_lower c.lookup_global_dv-outer.ensures.few c.requires

pub loop-k-init : goal.loop-k-init
loop-k-init c = onward_start _ _ _ _ _ _ _ c.lookup_global_dv-outer.ensures.few

pub scan-v-requires : goal.scan-v-requires
scan-v-requires c = rw (word_at c.loop-k.work c.statement.ensures) (all_can (c.loop-k.invariant.sim _ _ c.requires c.scan_all-v.ensures) c.requires (search rules))

pub loop-k-preserved : goal.loop-k-preserved
loop-k-preserved c = onward_step c.loop-k.invariant (search rules) (word_at c.loop-k.work c.statement.ensures) c.scan-v.ensures

pub returns : goal.returns
returns c = all_end (c.loop-k.invariant.sim _ _ c.requires c.scan_all-v.ensures) (search rules)
