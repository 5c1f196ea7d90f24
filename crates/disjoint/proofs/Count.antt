-- The number of pairs listed once is the sum, over the numbers below m, of the partners above each.
-- Assumes nothing.
use mathlib.Core.Path.{◌≡◌, refl, sym, ap, ◌∙◌}
use mathlib.Core.Logic.{◌≢◌}
use mathlib.Core.Bool.{Bool, true, false}
use mathlib.Core.List.{List, [], ◌∷◌, ◌++◌, append_assoc, append-nil}
use Prim.Native.Nat.{ℕ, ◌+◌, ◌<◌}
use native.Mathlib.Omega.{arith}
use lib.Dec.{eqb, ltb}
use lib.ListN.{length}
use borrow.Author.Tests.{eq-eqb, ltb-true, ltb-false, lt-ltb}
use Rattle.paper.specs.Base.{choose, and, or, not, any, all}
use Rattle.paper.specs.Pairs.{Pair, pair, same_pair, new_pairs}
use Rattle.paper.proofs.Tests.{split, clash}
use Rattle.paper.proofs.Names.{any_append}
use Rattle.sight.specs.Sums.{one}
use Rattle.sight.proofs.Sums.{sum_same, sum_one}
use Rattle.disjoint.specs.Found.{both, proper, meets, rising, partners, count}
use Rattle.disjoint.proofs.New.{same_cases, same_straight, same_crossed, any_same, any_again}
use Rattle.disjoint.proofs.Bools.{or_false, and_left, and_right}

-- the same test at each pair: the same count
count_same :
    (l k : List Pair) (m : ℕ) → ((u v : ℕ) → meets l u v ≡ meets k u v) → count l m ≡ count k m
unfolding count partners
count_same l k m h = sum_same _ _ m (λ u a. sum_same _ _ m (λ v b. ap (λ t. one (and (ltb u v) t)) (h u v)))

pub meets_last : (l : List Pair) (x : Pair) (u v : ℕ) → meets (l ++ (x ∷ [])) u v ≡ or (meets l u v) (same_pair (pair u v) x)
unfolding meets any
meets_last l x u v =
    any_append (same_pair (pair u v)) l (x ∷ [])
    ∙ ap (or (any (same_pair (pair u v)) l)) (last (same_pair (pair u v) x))
  where
    last : (b : Bool) → choose b true false ≡ b
    last true = refl
    last false = refl

meets_any : (l : List Pair) (u v : ℕ) → meets l u v ≡ any (same_pair (pair u v)) l
unfolding meets
meets_any l u v = refl

-- a pair a, b with a below b, new to l: one more
count_rising :
    (l : List Pair) (x : Pair) (m a b : ℕ) → a < b → b < m → ((u v : ℕ) → u < v → same_pair (pair u v) x ≡ true → (u ≡ a) × (v ≡ b))
    → same_pair (pair a b) x ≡ true → any (same_pair x) l ≡ false → count (l ++ (x ∷ [])) m ≡ count l m + 1
unfolding count partners
count_rising l x m a b h k only is new =
    sum_one _ _ m a (omega arith)
    (sum_one _ _ m b k
    (rw (lt-ltb a b h, meets_last l x a b, is, unmet))
    (λ v c d. other a v (λ e. d e.1)))
    (λ u c d. sum_same _ _ m (λ v e. other u v (λ f. d f.0)))
  where
    unmet : meets l a b ≡ false
    unmet = meets_any l a b ∙ any_same (pair a b) x l is ∙ new

    other : (u v : ℕ) → ((u ≡ a) × (v ≡ b) → ⊥) → one (rising (l ++ (x ∷ [])) u v) ≡ one (rising l u v)
    other u v differ =
        split (ltb u v)
        (λ q.
        split (same_pair (pair u v) x) (λ r. absurd (differ (only u v (ltb-true u v q) r)))
        (λ r. ap (λ t. one (and (ltb u v) t)) (meets_last l x u v ∙ ap (or (meets l u v)) r ∙ or_false (meets l u v))))
        (λ q. rw q)

-- a proper pair that is new to l: one more
count_more :
    (l : List Pair) (x : Pair) (m : ℕ) → proper m x ≡ true → any (same_pair x) l ≡ false
    → count (l ++ (x ∷ [])) m ≡ count l m + 1
count_more l x m e new =
    split (ltb x.left x.right)
    (λ q.
    count_rising l x m x.left x.right (ltb-true _ _ q) (below_right x m e)
    (λ u v h r.
    same_cases (pair u v) x r (λ a b. (a, b)) (λ a b. absurd (omega (arith, a, b, ltb-true x.left x.right q))))
    (same_straight (pair x.left x.right) x refl refl) new)
    (λ q.
    let h : x.right < x.left = omega (arith, ltb-false x.left x.right q, differs x m e) in
    count_rising l x m x.right x.left h (below_left x m e)
    (λ u v k r. same_cases (pair u v) x r (λ a b. absurd (omega (arith, a, b))) (λ a b. (a, b)))
    (same_crossed (pair x.right x.left) x refl refl) new)
  where
    below_left : (x : Pair) (m : ℕ) → proper m x ≡ true → x.left < m
    below_left x m q = ltb-true _ _ (and_left (ltb x.left m) (ltb x.right m) (and_left (both m x) (not (eqb x.left x.right)) q))

    below_right : (x : Pair) (m : ℕ) → proper m x ≡ true → x.right < m
    below_right x m q = ltb-true _ _ (and_right (ltb x.left m) (ltb x.right m) (and_left (both m x) (not (eqb x.left x.right)) q))

    differs : (x : Pair) (m : ℕ) → proper m x ≡ true → x.left ≢ x.right
    differs x m q d = clash (sym (and_right (both m x) (not (eqb x.left x.right)) q) ∙ ap not (eq-eqb _ _ d))

-- a pair that is there already: as many
count_again :
    (l s : List Pair) (x : Pair) (m : ℕ) → any (same_pair x) l ≡ true → count (l ++ (x ∷ s)) m ≡ count (l ++ s) m
count_again l s x m e = count_same _ _ m met
  where
    met : (u v : ℕ) → meets (l ++ (x ∷ s)) u v ≡ meets (l ++ s) u v
    met u v =
        meets_any (l ++ (x ∷ s)) u v
        ∙ any_again (pair u v) l s x e
        ∙ sym (meets_any (l ++ s) u v)

-- the pairs of s that are new to l, counted
pub count_new :
    (s l : List Pair) (m : ℕ) → all (proper m) s ≡ true → length (new_pairs s l) + count l m ≡ count (l ++ s) m
unfolding new_pairs all
count_new [] l m h = let e : count (l ++ []) m ≡ count l m = ap (λ k. count k m) (append-nil l) in omega (arith, e)
count_new (x ∷ s) l m h =
    let p : proper m x ≡ true = all_first (proper m x) (all (proper m) s) h in
    let r : all (proper m) s ≡ true = all_rest (proper m x) (all (proper m) s) h in
    split (any (same_pair x) l)
    (λ e. rw (e, append-nil) (count_new s l m r ∙ sym (count_again l s x m e)))
    (λ e.
    let a : length (new_pairs s (l ++ (x ∷ []))) + count (l ++ (x ∷ [])) m ≡ count ((l ++ (x ∷ [])) ++ s) m =
    count_new s (l ++ (x ∷ [])) m r in
    let b : count (l ++ (x ∷ [])) m ≡ count l m + 1 = count_more l x m p e in
    let c : count ((l ++ (x ∷ [])) ++ s) m ≡ count (l ++ (x ∷ s)) m = ap (λ k. count k m) (append_assoc l (x ∷ []) s) in
    rw e (omega (arith, a, b, c)))
  where
    all_first : (a b : Bool) → choose a b false ≡ true → a ≡ true
    all_first true b q = refl
    all_first false b q = q

    all_rest : (a b : Bool) → choose a b false ≡ true → b ≡ true
    all_rest true b q = q
    all_rest false b q = absurd (clash (sym q))
