use mathlib.Core.Path.{◌≡◌, sym, ◌∙◌}
use lib.ListN.{get_or}
use borrow.Author.Rules.{rules}
use native.Mathlib.Omega.{arith}
use Rattle.area.proofs.Laws.{word_at}
use Rattle.reader.proofs.Backs.{back_statement, back_open, back_close}
use Rattle.reader.proofs.end.step_back.Goals as goal

pub overflow_sub-row : goal.overflow_sub-row
overflow_sub-row c = omega (arith, c.requires.some (sym (word_at c.args.work.now c.bucket.ensures) ∙ c.in-0.is))

pub returns-in-0 : goal.returns-in-0
returns-in-0 c = back_statement _ _ _ _ (sym (word_at c.args.work.now c.bucket.ensures) ∙ c.in-0.is) _ _ c.statement.ensures c.top_end.ensures

pub returns-in-1 : goal.returns-in-1
returns-in-1 c = let o = sym (word_at c.args.work.now c.bucket.ensures) ∙ c.in-1.is in
    back_open _ _ _ _ (λ z. omega (arith, z, o)) o _ c.saturating_sub.ensures

pub returns-in_default : goal.returns-in_default
returns-in_default c = let p = word_at c.args.work.now c.bucket.ensures in
    let n₀ : get_or c.args.work.now c.bucket.result 0 ≡ 0 → ⊥ = search rules in
    let n₁ : get_or c.args.work.now c.bucket.result 0 ≡ 1 → ⊥ = search rules in
    back_close _ _ _ _ (λ z. n₀ (p ∙ z)) (λ z. n₁ (p ∙ z)) _ p
