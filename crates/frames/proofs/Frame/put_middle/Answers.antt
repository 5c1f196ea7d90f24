use native.Mathlib.Omega.{arith}
use Rattle.frames.proofs.Parts.{hand_hyps, hand_some, hand_row, hand_before, hand_numbers, hand_small, middle_put}
use borrow.Author.Rules.{rules}
use Rattle.frames.proofs.Frame.put_middle.Goals as goal

pub put_hyps-target_at-requires : goal.put_hyps-target_at-requires
put_hyps-target_at-requires c = (hand_hyps c.requires.0, search rules)

pub stack_length-before-requires : goal.stack_length-before-requires
stack_length-before-requires c = hand_some c.requires.0

pub put_spelled-requires : goal.put_spelled-requires
put_spelled-requires c =
    let small = hand_small c.requires.0 in (
      hand_row c.requires.0,
      hand_numbers c.requires.0,
      omega (arith, c.put_hyps-target_at.ensures.few, small, c.requires.1),
      omega (arith, c.stack_length-before.ensures.few _ (hand_before c.requires.0), (hand_row c.requires.0).tokens, small),
    )

pub returns : goal.returns
returns c = (
  middle_put c.requires.0 c.put_hyps-target_at.ensures c.stack_length-before.ensures c.put_spelled.ensures.0,
  record { stack = c.stack_length-before.result; counted = c.stack_length-before.ensures; pooled = c.put_spelled.ensures.1 },
)
