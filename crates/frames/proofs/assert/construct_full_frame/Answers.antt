use mathlib.Core.Path.{sym}
use Rattle.frames.proofs.Stages.{can_first, can_second, can_third, numbered_hold, frame_whole, frames_over, frames_built}
use borrow.Author.Rules.{rules}
use Rattle.frames.proofs.assert.construct_full_frame.Goals as goal

pub scan_all-active-requires : goal.scan_all-active-requires
scan_all-active-requires c = can_first c.requires.0

pub scan_expression-mandatory-requires : goal.scan_expression-mandatory-requires
scan_expression-mandatory-requires c = can_second c.scan_all-active.ensures c.requires.0

pub scan_dv-vars-requires : goal.scan_dv-vars-requires
scan_dv-vars-requires c = can_third c.scan_all-active.ensures c.scan_expression-mandatory.ensures c.requires.0

pub forget-requires : goal.forget-requires
forget-requires c =
    numbered_hold c.scan_all-active.ensures c.scan_expression-mandatory.ensures c.scan_dv-vars.ensures c.requires.0

pub returns-then-vars-gt-MOST_VARIABLES : goal.returns-then-vars-gt-MOST_VARIABLES
returns-then-vars-gt-MOST_VARIABLES c =
    frames_over c.scan_all-active.ensures c.scan_expression-mandatory.ensures c.scan_dv-vars.ensures _
    c.if-vars-gt-MOST_VARIABLES.true c.forget.ensures

pub put-after-requires : goal.put-after-requires
put-after-requires c = (
  frame_whole c.scan_all-active.ensures c.scan_expression-mandatory.ensures c.scan_dv-vars.ensures c.args.setting c.requires.0
      (search rules) c.drawn-size.ensures,
  search rules,
)

pub forget-requires-2 : goal.forget-requires-2
forget-requires-2 c =
    rw (sym c.put-after.ensures.words) at
    (numbered_hold c.scan_all-active.ensures c.scan_expression-mandatory.ensures c.scan_dv-vars.ensures c.requires.0)

pub returns : goal.returns
returns c =
    frames_built c.scan_all-active.ensures c.scan_expression-mandatory.ensures c.scan_dv-vars.ensures _ (search rules)
    c.drawn-size.ensures c.put-after.ensures (search rules) c.forget-2.ensures
