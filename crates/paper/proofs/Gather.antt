-- What each of a list's elements gives, one after the other: up to an element, at a place in it, and after it.
-- For every crate; nothing here is about Metamath.
use mathlib.Core.Path.{◌≡◌, refl, sym, ap, ◌∙◌}
use mathlib.Core.Bool.{Bool, true}
use mathlib.Core.List.{List, [], ◌∷◌, ◌++◌, map, append-nil}
use Prim.Native.Nat.{ℕ, suc, ◌+◌, ◌<◌, ◌≤◌}
use native.Mathlib.Numerals.{add-one}
use native.Mathlib.Omega.{arith}
use lib.ListN.{length, get_or, take, drop, length-append, get_or-append, take-append-drop}
use lib.Seq.{take-suc, drop-cons, get_or-append-add}
use Rattle.paper.specs.Base.{any, gather}
use Rattle.paper.proofs.Tests.{split}
use Rattle.paper.proofs.Lists.{gather_append}
use Rattle.paper.proofs.Names.{any_append}

pub map_append : {A B : Type 0} (f : A → B) (l m : List A) → map f (l ++ m) ≡ map f l ++ map f m
map_append f [] m = refl
map_append f (x ∷ l) m = ap (λ r. f x ∷ r) (map_append f l m)

pub gather_one : {A B : Type 0} (f : A → List B) (x : A) → gather f (x ∷ []) ≡ f x
unfolding gather
gather_one f x = append-nil (f x)

-- d is any element, for a place past the end
module _ {A B : Type 0} (f : A → List B) (l : List A) (d : A) (s : ℕ) (h : s < length l) where
  pub gather_more : gather f (take (s + 1) l) ≡ gather f (take s l) ++ f (get_or l s d)
  gather_more =
      rw (add-one, take-suc l s d) (gather_append f (take s l) (get_or l s d ∷ []) ∙ rw (gather_one f (get_or l s d)))

  pub gather_parts : gather f (take s l) ++ (f (get_or l s d) ++ gather f (drop (suc s) l)) ≡ gather f l
  unfolding gather
  gather_parts =
      ap (λ r. gather f (take s l) ++ gather f r) (sym (drop-cons l s d h))
      ∙ sym (gather_append f (take s l) (drop s l))
      ∙ ap (gather f) (take-append-drop s l)

  pub gather_at : (e : B) (i : ℕ) → i < length (f (get_or l s d)) → get_or (gather f l) (length (gather f (take s l)) + i) e ≡ get_or (f (get_or l s d)) i e
  gather_at e i k =
      ap (λ r. get_or r (length (gather f (take s l)) + i) e) (sym gather_parts)
      ∙ get_or-append-add (gather f (take s l)) (f (get_or l s d) ++ gather f (drop (suc s) l)) i e
      ∙ get_or-append (f (get_or l s d)) (gather f (drop (suc s) l)) e i k

  pub gather_upto : length (gather f (take s l)) + length (f (get_or l s d)) ≤ length (gather f l)
  gather_upto =
      omega (
        arith,
        ap length gather_parts,
        length-append (gather f (take s l)) (f (get_or l s d) ++ gather f (drop (suc s) l)),
        length-append (f (get_or l s d)) (gather f (drop (suc s) l)),
      )

-- lengths add up
pub gather_both : {A B C D : Type 0} (f : A → List B) (g : A → List C) (h : A → List D) (l : List A) → ((x : A) → length (f x) ≡ length (g x) + length (h x)) → length (gather f l) ≡ length (gather g l) + length (gather h l)
unfolding gather
gather_both f g h [] e = refl
gather_both f g h (x ∷ l) e =
    omega (
      arith,
      e x,
      gather_both f g h l e,
      length-append (f x) (gather f l),
      length-append (g x) (gather g l),
      length-append (h x) (gather h l),
    )

-- what one of them gives passes
pub any_gather : {A B : Type 0} (p : B → Bool) (f : A → List B) (l : List A) (d : A) (s : ℕ) → s < length l → any p (f (get_or l s d)) ≡ true → any p (gather f l) ≡ true
any_gather p f l d s h e =
    ap (any p) (sym (gather_parts f l d s h))
    ∙ any_append p (gather f (take s l)) (f (get_or l s d) ++ gather f (drop (suc s) l))
    ∙ split (any p (gather f (take s l))) (λ q. rw q)
    (λ q. rw q (any_append p (f (get_or l s d)) (gather f (drop (suc s) l)) ∙ rw e))
