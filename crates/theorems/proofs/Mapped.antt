-- The searches of the definitions over a list whose elements were changed: what is found is what was found, changed.
-- Nothing here is about Metamath.
use mathlib.Core.Path.{◌≡◌, refl, sym}
use mathlib.Core.Bool.{Bool}
use mathlib.Core.List.{List, [], ◌∷◌, map}
use mathlib.Core.Option.{Option, none, some}
use Rattle.paper.specs.Base.{keep, find, or_else, latest, gather}
use Rattle.paper.proofs.Tests.{split}
use Rattle.paper.proofs.Alls.{All, all_none, all_more}
use Rattle.paper.proofs.Gather.{map_append}

abbrev pub map_option : {A B : Type 0} → (A → B) → Option A → Option B
map_option h none = none
map_option h (some x) = some (h x)

module _ {A B : Type 0} (h : A → B) where
  module _ (p : B → Bool) (q : A → Bool) where
    pub keep_mapped : {l : List A} → All (λ x. p (h x) ≡ q x) l → keep p (map h l) ≡ map h (keep q l)
    unfolding keep
    keep_mapped all_none = refl
    keep_mapped (all_more {x = x} e a) = rw (e, keep_mapped a) (split (q x) (λ z. rw z) (λ z. rw z))

    module _ (e : (x : A) → p (h x) ≡ q x) where
      pub find_mapped : (l : List A) → find p (map h l) ≡ map_option h (find q l)
      unfolding find
      find_mapped [] = refl
      find_mapped (x ∷ l) = rw (e x, find_mapped l) (split (q x) (λ z. rw z) (λ z. rw z))

      else_mapped : (a b : Option A) → or_else (map_option h a) (map_option h b) ≡ map_option h (or_else a b)
      else_mapped none b = refl
      else_mapped (some x) b = refl

      pub latest_mapped : (l : List A) → latest p (map h l) ≡ map_option h (latest q l)
      unfolding latest
      latest_mapped [] = refl
      latest_mapped (x ∷ l) =
          rw (e x, latest_mapped l)
          (split (q x)
          (λ z. rw z (else_mapped (latest q l) (some x)))
          (λ z. rw z (else_mapped (latest q l) none)))

  pub gather_mapped : {C D : Type 0} (k : C → D) (g : A → List C) (g' : B → List D) {l : List A}
      → All (λ x. g' (h x) ≡ map k (g x)) l → gather g' (map h l) ≡ map k (gather g l)
  unfolding gather
  gather_mapped k g g' all_none = refl
  gather_mapped k g g' (all_more {x = x} {l = l} e a) =
      rw (e, gather_mapped k g g' a) (sym (map_append k (g x) (gather g l)))

pub map_mapped : {A B C : Type 0} (g : B → C) (h : A → B) (k : A → C) → ((x : A) → g (h x) ≡ k x) → (l : List A)
    → map g (map h l) ≡ map k l
map_mapped g h k e [] = refl
map_mapped g h k e (x ∷ l) = rw (e x, map_mapped g h k e l)
