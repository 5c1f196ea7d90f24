-- The table of a function's values: its length, its entries, and one of them changed.
-- For every crate; nothing here is about Metamath.
use mathlib.Core.Path.{◌≡◌, refl, sym, ap, ◌∙◌}
use mathlib.Core.List.{[], ◌∷◌}
use Prim.Native.Nat.{ℕ, zero, suc, ◌<◌}
use native.Mathlib.Nat.{not-suc-le-zero}
use native.Mathlib.Omega.{arith}
use lib.Dec.{eqb, ltb}
use lib.ListN.{length, get_or, set, length-append, length-set, get_or-append}
use lib.Seq.{get_or_at, get_or-set_same, get_or-set_other, ext_get_or}
use borrow.Author.Tests.{eqb-true, ltb-true, ltb-false}
use Rattle.paper.specs.Base.{table}
use Rattle.paper.proofs.Tests.{split, eqb_ne}

module _ {A : Type 0} (f : ℕ → A) where
  pub length_table : (n : ℕ) → length (table f n) ≡ n
  unfolding table
  length_table zero = refl
  length_table (suc n) = omega (arith, length-append (table f n) (f n ∷ []), length_table n)

  pub get_or_table : (n i : ℕ) (d : A) → i < n → get_or (table f n) i d ≡ f i
  unfolding table
  get_or_table zero i d h = absurd (not-suc-le-zero h)
  get_or_table (suc n) i d h =
      split (ltb i n)
      (λ q.
      let k : i < n = ltb-true i n q in
      get_or-append (table f n) (f n ∷ []) d i (omega (arith, length_table n)) ∙ get_or_table n i d k)
      (λ q.
      let e : n ≡ i = omega (arith, ltb-false i n q) in
      get_or_at (table f n) (f n) [] d i (length_table n ∙ e) ∙ ap f e)

-- where g differs from f at one place only
pub set_table : {A : Type 0} (f g : ℕ → A) (n k : ℕ) (x : A) → k < n → g k ≡ x → ((i : ℕ) → i < n → (i ≡ k → ⊥) → g i ≡ f i)
    → set (table f n) k x ≡ table g n
set_table f g n k x h e s =
    let a : length (set (table f n) k x) ≡ n = length-set (table f n) k x ∙ length_table f n in
    ext_get_or x (set (table f n) k x) (table g n) (a ∙ sym (length_table g n))
    (λ i l.
    let m : i < n = omega arith in
    split (eqb i k)
    (λ q.
    let d : i ≡ k = eqb-true i k q in
    rw d (get_or-set_same (table f n) k x x (omega (arith, length_table f n)) ∙ sym e ∙ sym (get_or_table g n k x h)))
    (λ q.
    get_or-set_other (table f n) k i x x (eqb_ne q)
    ∙ get_or_table f n i x m
    ∙ sym (s i m (eqb_ne q))
    ∙ sym (get_or_table g n i x m)))
