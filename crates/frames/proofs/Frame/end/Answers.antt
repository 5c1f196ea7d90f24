use mathlib.Core.Path.{◌∙◌}
use native.Mathlib.Omega.{arith}
use Rattle.frames.proofs.Parts.{hand_names, hand_few, whole_hand, whole_disjoint}
use Rattle.frames.proofs.Past.{pool_few, frame_measured}
use Rattle.frames.proofs.Frame.end.Goals as goal

pub put_names-pool_at-requires : goal.put_names-pool_at-requires
put_names-pool_at-requires c = (hand_names (whole_hand c.requires.0), omega (arith, c.requires.1, c.put_front-names_at.ensures.few))

pub overflow_add-r : goal.overflow_add-r
overflow_add-r c =
    omega (
      arith,
      c.requires.1,
      c.put_front-names_at.ensures.few,
      c.put_names-pool_at.ensures.few,
      hand_few (whole_hand c.requires.0),
      c.put_middle-r.ensures.0.few,
      pool_few (whole_hand c.requires.0) c.put_middle-r.ensures.1,
    )

pub put_disjoint-requires : goal.put_disjoint-requires
put_disjoint-requires c =
    whole_disjoint c.requires.0
    (omega (
      arith,
      c.requires.1,
      c.put_front-names_at.ensures.few,
      c.put_names-pool_at.ensures.few,
      hand_few (whole_hand c.requires.0),
      c.put_middle-r.ensures.0.few,
      pool_few (whole_hand c.requires.0) c.put_middle-r.ensures.1,
    ))

pub returns : goal.returns
returns c =
    frame_measured c.requires.0 c.requires.2 c.put_front-names_at.ensures c.put_names-pool_at.ensures c.put_middle-r.ensures.0
    c.put_middle-r.ensures.1 c.put_disjoint.ensures (c.put_names-pool_at.auto.buf ∙ c.put_front-names_at.auto.buf)
    (c.put_disjoint.auto.buf ∙ c.put_middle-r.auto.buf ∙ c.put_names-pool_at.auto.buf ∙ c.put_front-names_at.auto.buf)
