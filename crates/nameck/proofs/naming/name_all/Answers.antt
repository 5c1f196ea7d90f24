use native.Mathlib.Omega.{arith}
use Rattle.nameck.proofs.Whole.{all_begin, some_statement, all_step, all_end}
use Rattle.nameck.proofs.naming.name_all.Goals as goal

pub loop-s-init : goal.loop-s-init
loop-s-init c = all_begin _ _ _ _

pub name_statement-k-requires : goal.name_statement-k-requires
name_statement-k-requires c = some_statement c.loop-s.invariant (omega arith) c.requires

pub loop-s-preserved : goal.loop-s-preserved
loop-s-preserved c = all_step c.loop-s.invariant (omega arith) c.name_statement-k.ensures c.name_statement-k.auto.work

pub shape_of-work : goal.shape_of-work
shape_of-work c = c.loop-s.invariant.len

pub returns : goal.returns
returns c = all_end c.loop-s.invariant (omega arith)
