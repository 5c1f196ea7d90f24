-- Sums that agree, that differ by one, and sums of zeros and ones.
-- Assumes nothing.
use mathlib.Core.Path.{◌≡◌, refl, sym, ap, ◌∙◌}
use mathlib.Core.Logic.{◌≢◌}
use Prim.Native.Nat.{ℕ, zero, suc, ◌+◌, ◌<◌, ◌≤◌}
use native.Mathlib.Omega.{arith}
use lib.Dec.{eqb}
use borrow.Author.Tests.{eqb-true}
use Rattle.paper.proofs.Tests.{split, eqb_ne}
use Rattle.sight.specs.Sums.{sum}

pub sum_same : (f g : ℕ → ℕ) (n : ℕ) → ((i : ℕ) → i < n → f i ≡ g i) → sum f n ≡ sum g n
unfolding sum
sum_same f g zero h = refl
sum_same f g (suc n) h =
    let a : sum f n ≡ sum g n = sum_same f g n (λ i l. h i (omega arith)) in
    let b : f n ≡ g n = h n (omega arith) in
    omega (arith, a, b)

pub sum_one :
    (f g : ℕ → ℕ) (n k : ℕ) → k < n → g k ≡ f k + 1 → ((i : ℕ) → i < n → i ≢ k → g i ≡ f i) → sum g n ≡ sum f n + 1
unfolding sum
sum_one f g zero k l e h = absurd (omega arith)
sum_one f g (suc n) k l e h =
    split (eqb n k)
    (λ q.
    let d : n ≡ k = eqb-true n k q in
    let a : sum g n ≡ sum f n = sum_same g f n (λ i b. h i (omega arith) (λ c. omega (arith, c, d))) in
    let b : g n ≡ f n + 1 = ap g d ∙ e ∙ ap (λ j. f j + 1) (sym d) in
    omega (arith, a, b))
    (λ q.
    let d : n ≢ k = eqb_ne q in
    let a : sum g n ≡ sum f n + 1 = sum_one f g n k (omega (arith, d)) e (λ i b c. h i (omega arith) c) in
    let b : g n ≡ f n = h n (omega arith) d in
    omega (arith, a, b))

-- each at most 1: at most n; and one of them 0: less than n
pub sum_few : (f : ℕ → ℕ) (n : ℕ) → ((i : ℕ) → i < n → f i ≤ 1) → sum f n ≤ n
unfolding sum
sum_few f zero h = omega arith
sum_few f (suc n) h = omega (arith, sum_few f n (λ i l. h i (omega arith)), h n (omega arith))

pub sum_fewer : (f : ℕ → ℕ) (n k : ℕ) → ((i : ℕ) → i < n → f i ≤ 1) → k < n → f k ≡ 0 → sum f n < n
unfolding sum
sum_fewer f zero k h l e = absurd (omega arith)
sum_fewer f (suc n) k h l e =
    split (eqb n k)
    (λ q. let d : f n ≡ 0 = ap f (eqb-true n k q) ∙ e in omega (arith, d, sum_few f n (λ i a. h i (omega arith))))
    (λ q.
    let d : n ≢ k = eqb_ne q in
    omega (arith, sum_fewer f n k (λ i a. h i (omega arith)) (omega (arith, d)) e, h n (omega arith)))

pub sum_zero : (f : ℕ → ℕ) (n : ℕ) → ((i : ℕ) → i < n → f i ≡ 0) → sum f n ≡ 0
unfolding sum
sum_zero f zero h = refl
sum_zero f (suc n) h = omega (arith, sum_zero f n (λ i l. h i (omega arith)), h n (omega arith))
