use Rattle.sight.proofs.Returns.{see_old, see_new}
use Rattle.sight.proofs.see.Goals as goal

pub returns-then-work-cell-ne0 : goal.returns-then-work-cell-ne0
returns-then-work-cell-ne0 c = see_old c.args.work.now c.args.n c.args.atom.0 c.args.vars c.symbol-cell.ensures c.if-work-cell-ne0.true

pub returns : goal.returns
returns c = see_new c.args.work.now c.args.n c.args.atom.0 c.args.vars c.symbol-cell.ensures c.bucket.ensures c.if-work-cell-ne0.false
