-- Which bits of the rows are set, by the pairs found.
-- Assumes nothing.
use mathlib.Core.Path.{◌≡◌, refl, sym, ap, ◌∙◌}
use mathlib.Core.Logic.{◌≢◌}
use mathlib.Core.Bool.{Bool, true, false}
use mathlib.Core.List.{List, [], ◌∷◌, map}
use Prim.Native.Nat.{ℕ, ◌<◌}
use native.Mathlib.Omega.{arith}
use lib.Dec.{eqb}
use lib.ListN.{length, get_or}
use borrow.Author.Tests.{eq-eqb, ne_eqb, eqb-true}
use Rattle.paper.specs.Base.{and, or, not, sameb, any, gather}
use Rattle.paper.specs.Variables.{member, index}
use Rattle.paper.specs.Pairs.{pair, pairs_in, same_pair, names_both, apart}
use Rattle.paper.proofs.Tests.{split, clash, eqb_ne, same_eq, eq_same, ne_same}
use Rattle.paper.proofs.Names.{any_append, index_at, index_none}
use Rattle.disjoint.specs.Found.{found_in, found, meets, has}

pub any_gather :
    {A B : Type 0} (p : B → Bool) (f : A → List B) (l : List A) → any p (gather f l) ≡ any (λ x. any p (f x)) l
unfolding gather any
any_gather p f [] = refl
any_gather p f (x ∷ l) =
    any_append p (f x) (gather f l)
    ∙ split (any p (f x)) (λ e. rw e) (λ e. rw e (any_gather p f l))

pub any_agree : {A : Type 0} (p q : A → Bool) (l : List A) → ((x : A) → p x ≡ q x) → any p l ≡ any q l
unfolding any
any_agree p q [] h = refl
any_agree p q (x ∷ l) h = rw (h x, any_agree p q l h)

-- ---- two different numbers are a pair of a list exactly when both are in it
-- the pairs of x with the numbers of l
module _ (i j x : ℕ) where
  with_left : i ≡ x → j ≢ x → (l : List ℕ) → any (same_pair (pair i j)) (map (pair x) l) ≡ has j l
  unfolding any has
  with_left e n [] = refl
  with_left e n (y ∷ l) =
      rw (eq-eqb i x e, ne_eqb j x n)
      (split (eqb j y) (λ q. rw q) (λ q. split (eqb i y) (λ r. rw (q, r) (with_left e n l)) (λ r. rw (q, r) (with_left e n l))))

  with_right : j ≡ x → i ≢ x → (l : List ℕ) → any (same_pair (pair i j)) (map (pair x) l) ≡ has i l
  unfolding any has
  with_right e n [] = refl
  with_right e n (y ∷ l) =
      rw (ne_eqb i x n, eq-eqb j x e)
      (split (eqb i y) (λ q. rw q) (λ q. rw q (with_right e n l)))

  with_neither : i ≢ x → j ≢ x → (l : List ℕ) → any (same_pair (pair i j)) (map (pair x) l) ≡ false
  unfolding any
  with_neither m n [] = refl
  with_neither m n (y ∷ l) =
      rw (ne_eqb i x m, ne_eqb j x n)
      (split (eqb i y) (λ q. rw q (with_neither m n l)) (λ q. rw q (with_neither m n l)))

absorb_right : (a b : Bool) → or b (and a b) ≡ b
absorb_right a true = refl
absorb_right true false = refl
absorb_right false false = refl

absorb_left : (a b : Bool) → or a (and a b) ≡ and a true
absorb_left true b = refl
absorb_left false b = refl

has_more : (i x : ℕ) (l : List ℕ) → has i (x ∷ l) ≡ or (eqb i x) (has i l)
unfolding has any
has_more i x l = split (eqb i x) (λ e. rw e) (λ e. rw e)

pub pairs_meet : (i j : ℕ) (l : List ℕ) → i ≢ j → any (same_pair (pair i j)) (pairs_in l) ≡ and (has i l) (has j l)
unfolding pairs_in has any
pairs_meet i j [] n = refl
pairs_meet i j (x ∷ l) n =
    any_append (same_pair (pair i j)) (map (pair x) l) (pairs_in l)
    ∙ rw (pairs_meet i j l n, has_more i x l, has_more j x l)
    (split (eqb i x)
    (λ e.
    let a : i ≡ x = eqb-true i x e in
    let b : j ≢ x = λ q. n (a ∙ sym q) in
    rw (with_left i j x a b l, e, ne_eqb j x b) (absorb_right (has i l) (has j l)))
    (λ e.
    split (eqb j x)
    (λ f.
    let a : j ≡ x = eqb-true j x f in
    rw (with_right i j x a (eqb_ne e) l, e, f) (absorb_left (has i l) (has j l)))
    (λ f. rw (with_neither i j x (eqb_ne e) (eqb_ne f) l, e, f))))

-- ---- names and their numbers
module _ (vs : List (List ℕ)) (placed : (k : ℕ) → k < length vs → index vs (get_or vs k []) ≡ k) (k : ℕ) (h : k < length vs) where
  -- a name has the number k exactly when it is the k-th
  number_is : (x : List ℕ) → eqb k (index vs x) ≡ sameb (get_or vs k []) x
  number_is x =
      split (sameb (get_or vs k []) x)
      (λ e. rw e (eq-eqb _ _ (sym (placed k h) ∙ ap (index vs) (same_eq _ _ e))))
      (λ e. rw e (ne_eqb _ _ (λ q. clash (sym (eq_same _ _ (named x q)) ∙ e))))
    where
      named : (x : List ℕ) → k ≡ index vs x → get_or vs k [] ≡ x
      named x q =
          split (member x vs) (λ m. ap (λ i. get_or vs i []) q ∙ index_at x vs m)
          (λ m. absurd (omega (arith, q, h, index_none x vs m)))

  pub has_number : (d : List (List ℕ)) → has k (map (index vs) d) ≡ member (get_or vs k []) d
  unfolding has any
  has_number [] = refl
  has_number (x ∷ d) = rw (number_is x, has_number d)

-- ---- Bit j of row i
pub apart_found :
    (vs : List (List ℕ)) → ((k : ℕ) → k < length vs → index vs (get_or vs k []) ≡ k) → (d : List (List (List ℕ))) (i j : ℕ)
    → i < length vs → j < length vs → apart d (get_or vs i []) (get_or vs j []) ≡ and (not (eqb i j)) (meets (found vs d) i j)
unfolding meets found
apart_found vs placed d i j h k =
    split (eqb i j)
    (λ e.
    let q : sameb (get_or vs i []) (get_or vs j []) ≡ true = eq_same _ _ (ap (λ n. get_or vs n []) (eqb-true i j e)) in
    rw (q, e))
    (λ e.
    let n : i ≢ j = eqb_ne e in
    let q : sameb (get_or vs i []) (get_or vs j []) ≡ false =
    ne_same _ _ (λ p. n (sym (placed i h) ∙ ap (index vs) p ∙ placed j k)) in
    rw (q, e)
    (any_agree (names_both (get_or vs i []) (get_or vs j [])) _ d
    (λ x. sym (pairs_meet i j (map (index vs) x) n ∙ rw (has_number vs placed i h x, has_number vs placed j k x)))
    ∙ sym (any_gather (same_pair (pair i j)) (found_in vs) d)))
