use mathlib.Core.Path.{◌≡◌, sym, ◌∙◌}
use native.Mathlib.Omega.{arith}
use lib.ListN.{get_or}
use Rattle.token.proofs.Classes.{is_white, not_white}
use Rattle.token.proofs.Words.{gap_end, gap_stop, gap_step}
use Rattle.token.proofs.Lines.{line_step, line_few, feed_bit, feed_le}
use borrow.Author.Rules.{rules}
use Rattle.token.proofs.cursor.Cursor.skip_white.Goals as goal

pub returns-then-class_of-ne-WHITE : goal.returns-then-class_of-ne-WHITE
returns-then-class_of-ne-WHITE c =
    let dark = not_white _ c.class_of.ensures c.if-class_of-ne-WHITE.true in
    (sym (gap_stop _ _ (search rules) dark) ∙ c.loop-at.invariant.1, c.loop-at.invariant.2)

pub overflow_add-line : goal.overflow_add-line
overflow_add-line c =
    let b = get_or c.args.text.now c.loop-at.at 0 in
    let few = line_few c.args.text.now c.loop-at.at (search rules) in
    omega (arith, c.from-line.ensures, feed_bit b, feed_le b, c.loop-at.invariant.2, few, c.well_formed)

pub loop-at-preserved : goal.loop-at-preserved
loop-at-preserved c =
    let light = is_white _ c.class_of.ensures c.if-class_of-ne-WHITE.false in (
      omega arith,
      gap_step _ _ (search rules) light ∙ c.loop-at.invariant.1,
      rw (c.from-line.ensures, feed_bit, c.loop-at.invariant.2) (sym (line_step _ _ (search rules))),
      c.loop-at.invariant.3,
    )

pub returns : goal.returns
returns c =
    let e : c.max.result ≡ c.loop-at.at = omega (arith, c.loop-at.invariant.0, c.loop-at.invariant.3) in
    rw e (sym (gap_end _ _ (search rules)) ∙ c.loop-at.invariant.1, c.loop-at.invariant.2)
