use Rattle.forms.proofs.Essentials.{pool_put}
use Rattle.forms.proofs.pool.put_pool.Goals as goal

pub returns : goal.returns
returns c = pool_put c.requires.0 c.requires.1 c.requires.2 c.put_stack-b.ensures c.put_constants-c.ensures c.put_u32.ensures
