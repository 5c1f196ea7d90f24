-- The mandatory pairs are those found, with the others left out.
-- Assumes nothing.
use mathlib.Core.Path.{◌≡◌, refl, sym, ap, ◌∙◌}
use mathlib.Core.Bool.{Bool, true, false}
use mathlib.Core.List.{List, [], ◌∷◌, ◌++◌, map}
use Prim.Native.Nat.{ℕ, ◌+◌}
use native.Mathlib.Omega.{arith}
use lib.Dec.{ltb}
use lib.ListN.{length}
use borrow.Author.Tests.{lt-ltb, le-ltb}
use Rattle.paper.specs.Base.{choose, and, keep, gather}
use Rattle.paper.specs.Variables.{member, index}
use Rattle.paper.specs.Pairs.{pair, pairs_in, new_pairs, pairs_by, pairs}
use Rattle.paper.proofs.Tests.{split}
use Rattle.paper.proofs.Lists.{keep_append}
use Rattle.paper.proofs.Names.{index_in, index_past, index_lt}
use Rattle.disjoint.specs.Found.{found_in, found, both}
use Rattle.disjoint.proofs.New.{Either, same_cases, new_kept}

pub keep_gather :
    {A B : Type 0} (p : B → Bool) (f : A → List B) (l : List A) → keep p (gather f l) ≡ gather (λ x. keep p (f x)) l
unfolding gather keep
keep_gather p f [] = refl
keep_gather p f (x ∷ l) = keep_append p (f x) (gather f l) ∙ ap (λ r. keep p (f x) ++ r) (keep_gather p f l)

pub gather_same : {A B : Type 0} (f g : A → List B) (l : List A) → ((x : A) → f x ≡ g x) → gather f l ≡ gather g l
unfolding gather
gather_same f g [] h = refl
gather_same f g (x ∷ l) h = rw (h x, gather_same f g l h)

-- ---- pairs of numbers below m
abbrev below : ℕ → ℕ → Bool
below m i = ltb i m

keep_first :
    (m x : ℕ) (l : List ℕ) → keep (both m) (map (pair x) l) ≡ choose (ltb x m) (map (pair x) (keep (below m) l)) []
unfolding keep
keep_first m x [] = split (ltb x m) (λ e. rw e) (λ e. rw e)
keep_first m x (y ∷ l) =
    split (ltb x m)
    (λ e. split (ltb y m) (λ q. rw (e, q, keep_first m x l, e)) (λ q. rw (e, q, keep_first m x l, e)))
    (λ e. rw (e, keep_first m x l, e))

keep_pairs : (m : ℕ) (l : List ℕ) → keep (both m) (pairs_in l) ≡ pairs_in (keep (below m) l)
unfolding keep pairs_in
keep_pairs m [] = refl
keep_pairs m (x ∷ l) =
    keep_append (both m) (map (pair x) l) (pairs_in l)
    ∙ split (ltb x m)
    (λ e. rw (keep_first m x l, e, keep_pairs m l))
    (λ e. rw (keep_first m x l, e, keep_pairs m l))

-- ---- numbers of names: the mandatory variables come first
below_member : (x : List ℕ) (m r : List (List ℕ)) → ltb (index (m ++ r) x) (length m) ≡ member x m
below_member x m r =
    split (member x m)
    (λ e. rw (index_in x m r e, e) (lt-ltb _ _ (index_lt x m e)))
    (λ e. rw (index_past x m r e, e) (le-ltb (length m + index r x) (length m) (omega arith)))

keep_numbers :
    (m r d : List (List ℕ))
    → keep (below (length m)) (map (index (m ++ r)) d) ≡ map (index m) (keep (λ x. member x m) d)
unfolding keep
keep_numbers m r [] = refl
keep_numbers m r (x ∷ d) =
    split (member x m)
    (λ e. rw (below_member x m r, e, index_in x m r e, keep_numbers m r d))
    (λ e. rw (below_member x m r, e, keep_numbers m r d))

-- ---- the pairs of a frame
pub both_either : (m : ℕ) → Either (both m)
both_either m = record { turned = λ x y e. same_cases x y e (λ p q. rw (p, q)) (λ p q. rw (p, q) (turn (ltb y.right m) (ltb y.left m))) }
  where
    turn : (a b : Bool) → and a b ≡ and b a
    turn true true = refl
    turn true false = refl
    turn false true = refl
    turn false false = refl

mandatory_found :
    (m r : List (List ℕ)) (d : List (List (List ℕ))) → keep (both (length m)) (found (m ++ r) d) ≡ gather (pairs_by m) d
unfolding found
mandatory_found m r d =
    keep_gather (both (length m)) (found_in (m ++ r)) d
    ∙ gather_same _ _ d (λ x. keep_pairs (length m) (map (index (m ++ r)) x) ∙ ap pairs_in (keep_numbers m r x))

-- those listed once, with the others left out
pub pairs_found :
    (m r : List (List ℕ)) (d : List (List (List ℕ)))
    → pairs m d ≡ keep (both (length m)) (new_pairs (found (m ++ r) d) [])
unfolding pairs keep
pairs_found m r d =
    ap (λ l. new_pairs l []) (sym (mandatory_found m r d))
    ∙ new_kept (both (length m)) (both_either (length m)) (found (m ++ r) d) []
