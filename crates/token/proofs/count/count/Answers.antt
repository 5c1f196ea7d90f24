use Rattle.token.proofs.Counts.{all_good, one_bad}
use Rattle.token.proofs.count.count.Goals as goal

pub returns-then-bads-eq0 : goal.returns-then-bads-eq0
returns-then-bads-eq0 c = all_good _ _ c.tally_all-tokens.ensures c.if-bads-eq0.true

pub returns-else-bads-eq0 : goal.returns-else-bads-eq0
returns-else-bads-eq0 c = one_bad _ _ c.tally_all-tokens.ensures _ c.first_bad-bad.ensures
