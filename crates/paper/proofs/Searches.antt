-- What holds of all that the members of a list give, and what searches say of every member.
-- For every crate; nothing here is about Metamath.
use mathlib.Core.Path.{◌≡◌, refl, ◌∙◌}
use mathlib.Core.Bool.{Bool, true, false}
use mathlib.Core.List.{List, [], ◌∷◌, ◌++◌, nil≢cons}
use mathlib.Core.Option.{none, some}
use Rattle.paper.specs.Base.{all, any, find, gather}
use Rattle.paper.proofs.Tests.{split, clash}
use Rattle.paper.proofs.Names.{any_append}
use Rattle.paper.proofs.Alls.{All, all_none, all_more, all_append, all_left, all_right}

-- of all that the members of a list give
pub all_gather : {A B : Type 0} {P : A → Type 0} {Q : B → Type 0} (f : A → List B) {l : List A}
    → ((x : A) → P x → All Q (f x)) → All P l → All Q (gather f l)
unfolding gather
all_gather f g all_none = all_none
all_gather f g (all_more {x = x} h a) = all_append (g x h) (all_gather f g a)

pub all_ungather : {A B : Type 0} {Q : B → Type 0} (f : A → List B) (l : List A) → All Q (gather f l)
    → All (λ x. All Q (f x)) l
unfolding gather
all_ungather f [] a = all_none
all_ungather f (x ∷ l) a = all_more (all_left (f x) (gather f l) a) (all_ungather f l (all_right (f x) (gather f l) a))

pub gather_none : {A B : Type 0} (f : A → List B) {l : List A} → All (λ x. f x ≡ []) l → gather f l ≡ []
unfolding gather
gather_none f all_none = refl
gather_none f (all_more h a) = rw (h, gather_none f a)

pub not_nil : {A : Type 0} (x : List A) (t : A) (z : List A) → [] ≡ x ++ (t ∷ z) → ⊥
not_nil [] t z e = nil≢cons e
not_nil (y ∷ x) t z e = nil≢cons e

pub any_left : {A : Type 0} (p : A → Bool) (l m : List A) → any p l ≡ true → any p (l ++ m) ≡ true
any_left p l m e = any_append p l m ∙ rw e

pub any_right : {A : Type 0} (p : A → Bool) (l m : List A) → any p m ≡ true → any p (l ++ m) ≡ true
any_right p l m e = any_append p l m ∙ split (any p l) (λ h. rw h) (λ h. rw (h, e))

pub find_any : {A : Type 0} (p : A → Bool) (l : List A) → any p l ≡ false → find p l ≡ none
unfolding any find
find_any p [] e = refl
find_any p (x ∷ l) e =
    split (p x) (λ h. let z : true ≡ false = rw h at e in cc) (λ h. rw h (find_any p l (rw h at e)))

pub find_none : {A : Type 0} (p : A → Bool) (l : List A) → find p l ≡ none → All (λ x. p x ≡ false) l
unfolding find
find_none p [] e = all_none
find_none p (x ∷ l) e =
    split (p x)
    (λ h. let z : some x ≡ none = rw h at e in let y : true ≡ false = cc in absurd (clash y))
    (λ h. all_more h (find_none p l (rw h at e)))

pub none_find : {A : Type 0} (p : A → Bool) {l : List A} → All (λ x. p x ≡ false) l → find p l ≡ none
unfolding find
none_find p all_none = refl
none_find p (all_more h a) = rw h (none_find p a)

pub all_true : {A : Type 0} (p : A → Bool) {l : List A} → All (λ x. p x ≡ true) l → all p l ≡ true
unfolding all
all_true p all_none = refl
all_true p (all_more h a) = rw h (all_true p a)
