use Rattle.sight.proofs.Constants.{constant_set, constant_kept}
use Rattle.sight.proofs.mark_constant.Goals as goal

pub returns-then-global-eq1 : goal.returns-then-global-eq1
returns-then-global-eq1 c = constant_set c.args.work.now c.args.n c.args.atom.0 c.symbol.ensures c.symbol-then-global-eq1.ensures c.if-global-eq1.true

pub returns-else-global-eq1 : goal.returns-else-global-eq1
returns-else-global-eq1 c = constant_kept c.args.work.now c.args.n c.args.atom.0 c.symbol.ensures c.if-global-eq1.false
