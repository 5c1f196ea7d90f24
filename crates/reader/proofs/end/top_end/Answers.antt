use Rattle.reader.proofs.Backs.{top_none, top_some}
use Rattle.reader.proofs.end.top_end.Goals as goal

pub returns-then-depth-eq0 : goal.returns-then-depth-eq0
returns-then-depth-eq0 c = top_none _ _ _ c.if-depth-eq0.true

pub returns : goal.returns
returns c = top_some _ _ _ c.if-depth-eq0.false
