-- The pairs of a frame are few: their numbers are below 4,096, and no two pairs are the same.
-- Counted by the codes that no pair has taken yet.
use mathlib.Core.Path.{◌≡◌, refl, sym, ◌∙◌, subst}
use mathlib.Core.Bool.{Bool, true, false}
use mathlib.Core.List.{List, [], ◌∷◌, ◌++◌, map, append-nil}
use Prim.Native.Nat.{ℕ, zero, suc, ◌+◌, ◌*◌, ◌<◌, ◌≤◌}
use native.Mathlib.Omega.{arith}
use lib.Dec.{eqb}
use lib.ListN.{length}
use borrow.Author.Tests.{eq-eqb, eqb-true}
use Rattle.paper.specs.Base.{choose, sameb, any, keep, gather}
use Rattle.paper.specs.Variables.{member, index}
use Rattle.paper.specs.Pairs.{Pair, pair, pairs_in, mandatory_in, same_pair, new_pairs, pairs_by, pairs}
use Rattle.paper.proofs.Tests.{split, clash, eqb_ne, same_eq, eq_same}
use Rattle.paper.proofs.Alls.{All, all_none, all_more, all_append}
use Rattle.paper.proofs.Searches.{any_left, any_right}

-- ---- the codes that are free
abbrev code : Pair → ℕ
code x = 4096 * x.left + x.right

abbrev has : ℕ → Pair → Bool
has c x = eqb (code x) c

-- how many of the codes below n no pair of l has
unfoldable free : ℕ → List Pair → ℕ
free zero l = 0
free (suc c) l = choose (any (has c) l) 0 1 + free c l

free_few : (n : ℕ) (l : List Pair) → free n l ≤ n
unfolding free
free_few zero l = omega arith
free_few (suc c) l =
    split (any (has c) l) (λ e. rw e (omega (arith, free_few c l))) (λ e. rw e (omega (arith, free_few c l)))

free_less : (n : ℕ) (l m : List Pair) → free n (l ++ m) ≤ free n l
unfolding free
free_less zero l m = omega arith
free_less (suc c) l m =
    split (any (has c) l)
    (λ e. rw (e, any_left (has c) l m e) (omega (arith, free_less c l m)))
    (λ e.
    split (any (has c) (l ++ m))
    (λ k. rw (e, k) (omega (arith, free_less c l m)))
    (λ k. rw (e, k) (omega (arith, free_less c l m))))

any_last : (x : Pair) (l : List Pair) → any (has (code x)) (l ++ (x ∷ [])) ≡ true
unfolding any
any_last x l = any_right (has (code x)) l (x ∷ []) (rw (eq-eqb (code x) (code x) refl))

-- a pair with a free code takes it
free_taken : (n : ℕ) (l : List Pair) (x : Pair) → code x < n → any (has (code x)) l ≡ false
    → suc (free n (l ++ (x ∷ []))) ≤ free n l
unfolding free
free_taken zero l x h e = omega arith
free_taken (suc c) l x h e =
    split (eqb (code x) c)
    (λ k.
    let q : code x ≡ c = eqb-true (code x) c k in
    let y : any (has c) (l ++ (x ∷ [])) ≡ true = subst (λ (z : ℕ). any (has z) (l ++ (x ∷ [])) ≡ true) q (any_last x l) in
    let z : any (has c) l ≡ false = subst (λ (z : ℕ). any (has z) l ≡ false) q e in
    rw (y, z) (omega (arith, free_less c l (x ∷ []))))
    (λ k.
    let r = free_taken c l x (omega (arith, eqb_ne {x = code x} {y = c} k)) e in
    split (any (has c) l)
    (λ y. rw (y, any_left (has c) l (x ∷ []) y) (omega arith))
    (λ y.
    split (any (has c) (l ++ (x ∷ [])))
    (λ z. rw (y, z) (omega arith))
    (λ z. rw (y, z) (omega arith))))

-- ---- the pairs that are new
abbrev Low : Pair → Type 0
Low x = (x.left < 4096) × (x.right < 4096)

same_code : (x y : Pair) → Low x → Low y → code y ≡ code x → same_pair x y ≡ true
same_code x y g h e =
    rw (eq-eqb x.left y.left (omega arith), eq-eqb x.right y.right (omega arith))

any_code : (x : Pair) {l : List Pair} → Low x → All Low l → any (same_pair x) l ≡ false → any (has (code x)) l ≡ false
unfolding any
any_code x g all_none e = refl
any_code x g (all_more {x = y} h a) e =
    split (eqb (code y) (code x))
    (λ k. absurd (clash (rw (same_code x y g h (eqb-true (code y) (code x) k)) at e)))
    (λ k.
    rw k
    (any_code x g a
    (split (same_pair x y) (λ z. absurd (clash (rw z at e))) (λ z. rw z at e))))

new_few : {m l : List Pair} → All Low m → All Low l → length (new_pairs m l) ≤ free 16777216 l
unfolding new_pairs
new_few all_none b = omega arith
new_few {l = l} (all_more {x = x} {l = m} h a) b =
    split (any (same_pair x) l)
    (λ e. rw (e, append-nil l) (new_few a b))
    (λ e.
    rw e
    (omega (arith, free_taken 16777216 l x (omega arith) (any_code x h b e), new_few a (all_append b (all_more h all_none)))))

-- ---- the numbers of mandatory variables
index_low : (m : List (List ℕ)) (n : List ℕ) → member n m ≡ true → index m n < length m
unfolding any index
index_low [] n e = absurd (clash (sym e))
index_low (x ∷ m) n e =
    split (sameb x n)
    (λ k. rw k (omega arith))
    (λ k.
    rw k
    (omega (
      arith,
      index_low m n
          (split (sameb n x) (λ z. absurd (clash (sym (eq_same x n (sym (same_eq n x z))) ∙ k))) (λ z. rw z at e)),
    )))

mandatory_low : (m d : List (List ℕ)) → All (λ n. n < length m) (mandatory_in m d)
unfolding keep
mandatory_low m [] = all_none
mandatory_low m (n ∷ d) =
    split (member n m)
    (λ e. rw e (all_more (index_low m n e) (mandatory_low m d)))
    (λ e. rw e (mandatory_low m d))

pair_low : {k x : ℕ} {l : List ℕ} → k ≤ 4096 → x < k → All (λ n. n < k) l → All Low (map (pair x) l)
pair_low h g all_none = all_none
pair_low {x = x} h g (all_more {x = y} b a) = all_more {x = pair x y} (omega arith, omega arith) (pair_low h g a)

pairs_low : {k : ℕ} {l : List ℕ} → k ≤ 4096 → All (λ n. n < k) l → All Low (pairs_in l)
unfolding pairs_in
pairs_low h all_none = all_none
pairs_low h (all_more b a) = all_append (pair_low h b a) (pairs_low h a)

gather_low : (m : List (List ℕ)) (d : List (List (List ℕ))) → length m ≤ 4096 → All Low (gather (pairs_by m) d)
unfolding gather
gather_low m [] h = all_none
gather_low m (x ∷ d) h = all_append (pairs_low h (mandatory_low m x)) (gather_low m d h)

pub pairs_few : (m : List (List ℕ)) (d : List (List (List ℕ))) → length m ≤ 4096 → length (pairs m d) ≤ 16777216
unfolding pairs
pairs_few m d h = omega (arith, new_few (gather_low m d h) all_none, free_few 16777216 [])
