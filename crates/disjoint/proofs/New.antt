-- Pairs listed once: what a further pair adds, and that leaving out pairs that are not mandatory commutes with it.
-- Assumes nothing.
use mathlib.Core.Path.{◌≡◌, refl, sym, ap, ◌∙◌}
use mathlib.Core.Bool.{Bool, true, false}
use mathlib.Core.List.{List, [], ◌∷◌, ◌++◌, append_assoc, append-nil}
use lib.Dec.{eqb}
use borrow.Author.Tests.{eqb-true, eq-eqb}
use Rattle.paper.specs.Base.{choose, and, any, keep}
use Rattle.paper.specs.Pairs.{Pair, same_pair, new_pair, new_pairs}
use Rattle.paper.proofs.Tests.{split, clash}
use Rattle.paper.proofs.Lists.{keep_append}
use Rattle.paper.proofs.Names.{any_append}
use Rattle.disjoint.proofs.Bools.{or_right, and_left, and_right}

-- ---- the same pair, in either orientation
-- two tests that hold in the same cases are one
pub both_ways : (a b : Bool) → (a ≡ true → b ≡ true) → (b ≡ true → a ≡ true) → a ≡ b
both_ways true b f g = sym (f refl)
both_ways false true f g = g refl
both_ways false false f g = refl

pub same_cases :
    {P : Type 0} (x y : Pair) → same_pair x y ≡ true → (x.left ≡ y.left → x.right ≡ y.right → P)
    → (x.left ≡ y.right → x.right ≡ y.left → P) → P
same_cases x y e f g =
    split (and (eqb x.left y.left) (eqb x.right y.right))
    (λ q.
    f (eqb-true _ _ (and_left (eqb x.left y.left) (eqb x.right y.right) q))
    (eqb-true _ _ (and_right (eqb x.left y.left) (eqb x.right y.right) q)))
    (λ q.
    let r : and (eqb x.left y.right) (eqb x.right y.left) ≡ true = rw q at e in
    g (eqb-true _ _ (and_left (eqb x.left y.right) (eqb x.right y.left) r))
    (eqb-true _ _ (and_right (eqb x.left y.right) (eqb x.right y.left) r)))

pub same_straight : (x y : Pair) → x.left ≡ y.left → x.right ≡ y.right → same_pair x y ≡ true
same_straight x y e f = rw (eq-eqb x.left y.left e, eq-eqb x.right y.right f)

pub same_crossed : (x y : Pair) → x.left ≡ y.right → x.right ≡ y.left → same_pair x y ≡ true
same_crossed x y e f =
    or_right (and (eqb x.left y.left) (eqb x.right y.right)) _
    (rw (eq-eqb x.left y.right e, eq-eqb x.right y.left f))

pub same_sym : (x y : Pair) → same_pair x y ≡ true → same_pair y x ≡ true
same_sym x y e =
    same_cases x y e (λ p q. same_straight y x (sym p) (sym q)) (λ p q. same_crossed y x (sym q) (sym p))

pub same_then : (x y z : Pair) → same_pair x y ≡ true → same_pair y z ≡ true → same_pair x z ≡ true
same_then x y z e f =
    same_cases x y e
    (λ p q. same_cases y z f (λ r s. same_straight x z (p ∙ r) (q ∙ s)) (λ r s. same_crossed x z (p ∙ r) (q ∙ s)))
    (λ p q. same_cases y z f (λ r s. same_crossed x z (p ∙ s) (q ∙ r)) (λ r s. same_straight x z (p ∙ s) (q ∙ r)))

same_left : (x y z : Pair) → same_pair x y ≡ true → same_pair x z ≡ same_pair y z
same_left x y z e = both_ways _ _ (same_then y x z (same_sym x y e)) (same_then x y z e)

pub any_same : (x y : Pair) (l : List Pair) → same_pair x y ≡ true → any (same_pair x) l ≡ any (same_pair y) l
unfolding any
any_same x y [] e = refl
any_same x y (z ∷ l) e = rw (same_left x y z e, any_same x y l e)

-- ---- what is found in a list and what is new to it
-- a pair that is there already changes nothing
pub any_again :
    (x : Pair) (l s : List Pair) (y : Pair) → any (same_pair y) l ≡ true
    → any (same_pair x) (l ++ (y ∷ s)) ≡ any (same_pair x) (l ++ s)
unfolding any
any_again x l s y e =
    rw (any_append (same_pair x) l s, any_append (same_pair x) l (y ∷ s))
    (split (same_pair x y)
    (λ q. let r : any (same_pair x) l ≡ true = any_same x y l q ∙ e in rw (q, r))
    (λ q. rw q))

-- a pair listed once stands for its later repeats
listed :
    (x y : Pair) (s l : List Pair)
    → any (same_pair x) ((l ++ new_pair l y) ++ s) ≡ any (same_pair x) (l ++ (y ∷ s))
listed x y s l =
    split (any (same_pair y) l)
    (λ e. rw (e, append-nil) (sym (any_again x l s y e)))
    (λ e. rw e (ap (any (same_pair x)) (append_assoc l (y ∷ []) s)))

-- a pair is among those listed once exactly when it is among them all
pub any_new : (x : Pair) (s l : List Pair) → any (same_pair x) (l ++ new_pairs s l) ≡ any (same_pair x) (l ++ s)
unfolding new_pairs
any_new x [] l = refl
any_new x (y ∷ s) l =
    ap (any (same_pair x)) (sym (append_assoc l (new_pair l y) (new_pairs s (l ++ new_pair l y))))
    ∙ any_new x s (l ++ new_pair l y)
    ∙ listed x y s l

-- one more pair at the end
pub new_last : (s l : List Pair) (x : Pair) → new_pairs (s ++ (x ∷ [])) l ≡ new_pairs s l ++ new_pair (l ++ s) x
unfolding new_pairs
new_last [] l x = append-nil (new_pair l x) ∙ ap (λ m. new_pair m x) (sym (append-nil l))
new_last (y ∷ s) l x =
    ap (λ r. new_pair l y ++ r) (new_last s (l ++ new_pair l y) x)
    ∙ sym (append_assoc (new_pair l y) _ _)
    ∙ ap (λ b. (new_pair l y ++ new_pairs s (l ++ new_pair l y)) ++ choose b [] (x ∷ [])) (listed x y s l)

-- ---- pairs left out
-- a test that does not look at the orientation
pub record Either (p : Pair → Bool) : Type 0 where
  pub turned : (x y : Pair) → same_pair x y ≡ true → p x ≡ p y

pub any_kept :
    (p : Pair → Bool) → Either p → (x : Pair) (l : List Pair) → p x ≡ true
    → any (same_pair x) (keep p l) ≡ any (same_pair x) l
unfolding any keep
any_kept p h x [] e = refl
any_kept p h x (y ∷ l) e =
    split (p y) (λ q. rw (q, any_kept p h x l e))
    (λ q.
    split (same_pair x y) (λ r. absurd (clash (sym e ∙ h.turned x y r ∙ q)))
    (λ r. rw (q, r) (any_kept p h x l e)))

pub new_kept :
    (p : Pair → Bool) → Either p → (s l : List Pair) → new_pairs (keep p s) (keep p l) ≡ keep p (new_pairs s l)
unfolding new_pairs keep
new_kept p h [] l = refl
new_kept p h (x ∷ s) l =
    split (p x)
    (λ e.
    let z : new_pair (keep p l) x ≡ new_pair l x = ap (λ b. choose b [] (x ∷ [])) (any_kept p h x l e) in
    let y : keep p (new_pair l x) ≡ new_pair l x = kept_new p x l e in
    rw (e, z, keep_append p (new_pair l x) (new_pairs s (l ++ new_pair l x)), y)
    (ap (λ r. new_pair l x ++ new_pairs (keep p s) r) (ap (λ r. keep p l ++ r) (sym y) ∙ sym (keep_append p l (new_pair l x)))
    ∙ ap (λ r. new_pair l x ++ r) (new_kept p h s (l ++ new_pair l x))))
    (λ e.
    let y : keep p (new_pair l x) ≡ [] = lost_new p x l e in
    rw (e, keep_append p (new_pair l x) (new_pairs s (l ++ new_pair l x)), y)
    (ap (new_pairs (keep p s)) (sym (append-nil (keep p l)) ∙ ap (λ r. keep p l ++ r) (sym y) ∙ sym (keep_append p l (new_pair l x)))
    ∙ new_kept p h s (l ++ new_pair l x)))
  where
    kept_new : (p : Pair → Bool) (x : Pair) (l : List Pair) → p x ≡ true → keep p (new_pair l x) ≡ new_pair l x
    kept_new p x l e = split (any (same_pair x) l) (λ q. rw q) (λ q. rw (q, e))

    lost_new : (p : Pair → Bool) (x : Pair) (l : List Pair) → p x ≡ false → keep p (new_pair l x) ≡ []
    lost_new p x l e = split (any (same_pair x) l) (λ q. rw q) (λ q. rw (q, e))
