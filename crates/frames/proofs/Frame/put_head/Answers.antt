use native.Mathlib.Omega.{arith}
use Rattle.frames.proofs.Parts.{hand_names, hand_stack, hand_row, hand_before, hand_few, head_put}
use Rattle.frames.proofs.Frame.put_head.Goals as goal

pub put_names-pool_at-requires : goal.put_names-pool_at-requires
put_names-pool_at-requires c = (hand_names c.requires.0, omega (arith, c.put_front-names_at.ensures.few, c.requires.1))

pub put_pool-requires : goal.put_pool-requires
put_pool-requires c = (
  hand_stack c.requires.0,
  hand_row c.requires.0,
  hand_before c.requires.0,
  omega (arith, c.put_front-names_at.ensures.few, c.put_names-pool_at.ensures.few, hand_few c.requires.0, c.requires.1),
)

pub returns : goal.returns
returns c = head_put c.requires.0 c.put_front-names_at.ensures c.put_names-pool_at.ensures c.put_pool.ensures
