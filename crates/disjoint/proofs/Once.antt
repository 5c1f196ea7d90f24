-- The count by turns is the number of mandatory pairs, each once; and the pairs of the rows are proper.
-- Assumes nothing.
use mathlib.Core.Path.{◌≡◌, refl, sym, ap, ◌∙◌}
use mathlib.Core.Logic.{◌≢◌}
use mathlib.Core.Bool.{Bool, true}
use mathlib.Core.List.{List, [], ◌∷◌, ◌++◌, map}
use Prim.Native.Nat.{ℕ, zero, suc, ◌+◌, ◌<◌}
use native.Mathlib.Omega.{arith}
use lib.Dec.{eqb, ltb}
use lib.ListN.{length, get_or}
use borrow.Author.Tests.{lt-ltb, ne_eqb}
use Rattle.paper.specs.Base.{and, not, all, any, keep, gather}
use Rattle.paper.specs.Pairs.{Pair, pair, pairs_in, new_pairs}
use Rattle.paper.proofs.Tests.{split, clash}
use Rattle.area.specs.Cells.{statement_cell, word}
use Rattle.sight.specs.Static.{stack}
use Rattle.sight.specs.Sums.{one}
use Rattle.sight.proofs.Sums.{sum_same, sum_zero}
use Rattle.disjoint.specs.Found.{both, distinct, proper, meets, partners, count}
use Rattle.disjoint.specs.Words.{count_of, numbers, listed, RowNumbered, Stacked}
use Rattle.disjoint.specs.Drawn.{once}
use Rattle.disjoint.proofs.New.{any_kept, new_kept}
use Rattle.disjoint.proofs.Count.{count_new}
use Rattle.disjoint.proofs.Mandatory.{both_either}
use Rattle.disjoint.proofs.Words.{length_numbers, numbers_at, listed_more}
use Rattle.disjoint.proofs.Bools.{and_false, and_right}

-- ---- the count
count_none : (m : ℕ) → count [] m ≡ 0
unfolding count partners meets any
count_none m = sum_zero _ m (λ u l. sum_zero _ m (λ v k. ap one (and_false (ltb u v))))

-- pairs that are not both below m do not count
count_kept : (m : ℕ) (s : List Pair) → count (keep (both m) s) m ≡ count s m
unfolding count partners meets
count_kept m s =
    sum_same _ _ m
    (λ u l.
    sum_same _ _ m
    (λ v k.
    ap (λ t. one (and (ltb u v) t))
    (any_kept (both m) (both_either m) (pair u v) s (rw (lt-ltb u m l, lt-ltb v m k)))))

proper_kept : (m v : ℕ) (s : List Pair) → all (proper v) s ≡ true → all (proper m) (keep (both m) s) ≡ true
unfolding all keep
proper_kept m v [] e = refl
proper_kept m v (x ∷ s) e =
    split (proper v x)
    (λ q.
    let r : all (proper m) (keep (both m) s) ≡ true = proper_kept m v s (rw q at e) in
    let n : not (eqb x.left x.right) ≡ true = and_right (both v x) (not (eqb x.left x.right)) q in
    split (both m x) (λ b. rw (b, b, n) r) (λ b. rw b r))
    (λ q. absurd (clash (sym (rw q at e))))

pub count_once : (m v : ℕ) (s : List Pair) → all (proper v) s ≡ true → count s m ≡ length (once m s)
unfolding once keep
count_once m v s e =
    let a : length (new_pairs (keep (both m) s) []) + count [] m ≡ count (keep (both m) s) m =
    count_new (keep (both m) s) [] m (proper_kept m v s e) in
    let b : new_pairs (keep (both m) s) [] ≡ keep (both m) (new_pairs s []) = new_kept (both m) (both_either m) s [] in
    omega (arith, a, ap length b, count_none m, count_kept m s)

-- ---- proper pairs
all_join : {A : Type 0} (p : A → Bool) (a b : List A) → all p a ≡ true → all p b ≡ true → all p (a ++ b) ≡ true
unfolding all
all_join p [] b e f = f
all_join p (x ∷ a) b e f = split (p x) (λ q. rw q (all_join p a b (rw q at e) f)) (λ q. absurd (clash (sym (rw q at e))))

-- one number with others
first_proper :
    (v x : ℕ) (l : List ℕ) → x < v → ((i : ℕ) → i < length l → get_or l i 0 < v) → ((i : ℕ) → i < length l → x ≢ get_or l i 0)
    → all (proper v) (map (pair x) l) ≡ true
unfolding all
first_proper v x [] h k n = refl
first_proper v x (y ∷ l) h k n =
    rw (lt-ltb x v h, lt-ltb y v (k 0 (omega arith)), ne_eqb x y (n 0 (omega arith)))
    (first_proper v x l h (λ i a. k (suc i) (omega (arith, a))) (λ i a. n (suc i) (omega (arith, a))))

pairs_proper :
    (v : ℕ) (l : List ℕ) → ((i : ℕ) → i < length l → get_or l i 0 < v)
    → ((i j : ℕ) → i < j → j < length l → get_or l i 0 ≢ get_or l j 0) → all (proper v) (pairs_in l) ≡ true
unfolding pairs_in all
pairs_proper v [] k n = refl
pairs_proper v (x ∷ l) k n =
    all_join (proper v) (map (pair x) l) (pairs_in l)
    (first_proper v x l (k 0 (omega arith)) (λ i a. k (suc i) (omega (arith, a))) (λ i a. n 0 (suc i) (omega arith) (omega (arith, a))))
    (pairs_proper v l (λ i a. k (suc i) (omega (arith, a))) (λ i j a b. n (suc i) (suc j) (omega (arith, a)) (omega (arith, b))))

row_proper : {w : List ℕ} {n v r : ℕ} → RowNumbered w n v r → all (proper v) (pairs_in (numbers w n r)) ≡ true
row_proper {w} {n} {v} {r} x =
    let c : (i : ℕ) → i < length (numbers w n r) → i < count_of w r = λ i a. omega (arith, length_numbers w n r) in
    pairs_proper v (numbers w n r) (λ i a. rw (numbers_at w n r i (c i a)) (x.below i (c i a)))
    (λ i j a b q.
    x.differ i j a (c j b)
    (sym (numbers_at w n r i (c i (omega arith))) ∙ q ∙ numbers_at w n r j (c j b)))

pub listed_proper : {w : List ℕ} {n v : ℕ} (d : ℕ) → Stacked w n v d → all (proper v) (listed w n d) ≡ true
unfolding listed stack gather all
listed_proper zero x = refl
listed_proper {w} {n} {v} (suc d) x =
    let s : Stacked w n v d = record { buckets = x.buckets; depth = omega (arith, x.depth); row = λ i l. x.row i (omega arith) } in
    let e : suc d ≡ d + 1 = omega arith in
    ap (λ k. all (proper v) (listed w n k)) e
    ∙ ap (all (proper v)) (listed_more w n d)
    ∙ all_join (proper v) (listed w n d) (pairs_in (numbers w n (word w (statement_cell d 11)))) (listed_proper d s) (row_proper (x.row d (omega arith)))

pub proper_distinct : (v : ℕ) (l : List Pair) → all (proper v) l ≡ true → all distinct l ≡ true
unfolding all
proper_distinct v [] e = refl
proper_distinct v (x ∷ l) e =
    split (proper v x)
    (λ q. rw (and_right (both v x) (distinct x) q) (proper_distinct v l (rw q at e)))
    (λ q. absurd (clash (sym (rw q at e))))
