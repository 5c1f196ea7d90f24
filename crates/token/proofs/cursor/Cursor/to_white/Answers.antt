use mathlib.Core.Path.{◌≡◌, sym, ◌∙◌}
use native.Mathlib.Omega.{arith}
use Rattle.token.proofs.Classes.{is_white, not_white}
use Rattle.token.proofs.Words.{span_end, span_stop, span_step}
use borrow.Author.Rules.{rules}
use Rattle.token.proofs.cursor.Cursor.to_white.Goals as goal

pub returns-then-c-eq-WHITE : goal.returns-then-c-eq-WHITE
returns-then-c-eq-WHITE c =
    let light = is_white _ c.class_of-c.ensures c.if-c-eq-WHITE.true in
    c.span.ensures ∙ sym (span_stop _ _ _ _ (search rules) light) ∙ c.loop-at.invariant.1

pub loop-at-preserved : goal.loop-at-preserved
loop-at-preserved c =
    let dark = not_white _ c.class_of-c.ensures c.if-c-eq-WHITE.false in (
      omega arith,
      rw (c.min-least.ensures, c.class_of-c.ensures) (span_step _ _ _ _ (search rules) dark) ∙ c.loop-at.invariant.1,
    )

pub returns : goal.returns
returns c =
    let e : c.max.result ≡ c.loop-at.at = omega arith in
    c.span-2.ensures ∙ rw e (sym (span_end _ _ _ _ (search rules)) ∙ c.loop-at.invariant.1)
