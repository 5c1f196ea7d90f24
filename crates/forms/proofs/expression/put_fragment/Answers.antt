use Rattle.forms.proofs.Fragments.{fragment_put}
use Rattle.forms.proofs.expression.put_fragment.Goals as goal

pub returns : goal.returns
returns c = fragment_put _ _ _ c.put_u32-a.ensures c.put_u32-b.ensures c.put_u16.ensures
