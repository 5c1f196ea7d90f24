use native.Mathlib.Omega.{arith}
use Rattle.frames.proofs.Parts.{frame_after, frame_put}
use Rattle.frames.proofs.Frame.put.Goals as goal

pub overflow_sub-end : goal.overflow_sub-end
overflow_sub-end c =
    omega (arith, frame_after c.requires.0 c.put_head-middle_at.ensures c.put_middle-r.ensures.0 c.put_disjoint-end.ensures)

pub returns : goal.returns
returns c = frame_put c.requires.0 c.put_head-middle_at.ensures c.put_middle-r.ensures.0 c.put_disjoint-end.ensures c.put_u32.ensures
