-- What holds of every member of a list, and of every two members in their order; what searches find of such lists.
-- For every crate; nothing here is about Metamath.
use mathlib.Core.Path.{◌≡◌, refl, sym, ◌∙◌}
use mathlib.Core.Bool.{Bool, true, false}
use mathlib.Core.List.{List, [], ◌∷◌, ◌++◌}
use mathlib.Core.Option.{Option, none, some}
use Rattle.paper.specs.Base.{choose, keep, latest}
use Rattle.paper.proofs.Tests.{split, by_option, clash}
use Rattle.paper.proofs.Options.{none_some, some_same}

pub data All {A : Type 0} (P : A → Type 0) : List A → Type 0 where
  all_none : All P []
  all_more : {x : A} {l : List A} → P x → All P l → All P (x ∷ l)

-- of an earlier member and a later one
pub data Two {A : Type 0} (R : A → A → Type 0) : List A → Type 0 where
  two_none : Two R []
  two_more : {x : A} {l : List A} → All (R x) l → Two R l → Two R (x ∷ l)

-- ---- every member
pub all_map : {A : Type 0} {P Q : A → Type 0} {l : List A} → ((x : A) → P x → Q x) → All P l → All Q l
all_map f all_none = all_none
all_map f (all_more {x = x} p r) = all_more (f x p) (all_map f r)

pub all_both : {A : Type 0} {P Q : A → Type 0} {l : List A} → All P l → All Q l → All (λ x. P x × Q x) l
all_both all_none all_none = all_none
all_both (all_more p r) (all_more q s) = all_more (p, q) (all_both r s)

pub all_first : {A : Type 0} {P : A → Type 0} {x : A} {l : List A} → All P (x ∷ l) → P x
all_first (all_more p r) = p

pub all_rest : {A : Type 0} {P : A → Type 0} {x : A} {l : List A} → All P (x ∷ l) → All P l
all_rest (all_more p r) = r

pub all_append : {A : Type 0} {P : A → Type 0} {l m : List A} → All P l → All P m → All P (l ++ m)
all_append all_none y = y
all_append (all_more p r) y = all_more p (all_append r y)

pub all_left : {A : Type 0} {P : A → Type 0} (l m : List A) → All P (l ++ m) → All P l
all_left [] m h = all_none
all_left (x ∷ l) m h = all_more (all_first h) (all_left l m (all_rest h))

pub all_right : {A : Type 0} {P : A → Type 0} (l m : List A) → All P (l ++ m) → All P m
all_right [] m h = h
all_right (x ∷ l) m h = all_right l m (all_rest h)

pub all_of : {A : Type 0} {P : A → Type 0} (l : List A) → ((x : A) → P x) → All P l
all_of [] f = all_none
all_of (x ∷ l) f = all_more (f x) (all_of l f)

-- of those that pass, and that they pass
pub all_keep : {A : Type 0} {P : A → Type 0} (q : A → Bool) {l : List A} → All P l → All P (keep q l)
unfolding keep
all_keep q all_none = all_none
all_keep q (all_more {x = x} p r) = split (q x) (λ e. rw e (all_more p (all_keep q r))) (λ e. rw e (all_keep q r))

pub all_kept : {A : Type 0} (q : A → Bool) (l : List A) → All (λ x. q x ≡ true) (keep q l)
unfolding keep
all_kept q [] = all_none
all_kept q (x ∷ l) = split (q x) (λ e. rw e (all_more e (all_kept q l))) (λ e. rw e (all_kept q l))

-- of a member that is kept, if it is
pub all_unkeep : {A : Type 0} {P : A → Type 0} (q : A → Bool) (l : List A) → All P (keep q l) → All (λ x. q x ≡ true → P x) l
unfolding keep
all_unkeep q [] h = all_none
all_unkeep {P = P} q (x ∷ l) h =
    split (q x)
    (λ e. let r : All P (x ∷ keep q l) = rw e at h in all_more (λ f. all_first r) (all_unkeep q l (all_rest r)))
    (λ e. all_more (λ f. absurd (clash (sym f ∙ e))) (all_unkeep q l (rw e at h)))

-- ---- two members
pub two_map : {A : Type 0} {R S : A → A → Type 0} {l : List A} → ((x y : A) → R x y → S x y) → Two R l → Two S l
two_map f two_none = two_none
two_map f (two_more {x = x} p r) = two_more (all_map (f x) p) (two_map f r)

pub two_append :
    {A : Type 0} {R : A → A → Type 0} {l m : List A} → Two R l → Two R m → All (λ x. All (R x) m) l → Two R (l ++ m)
two_append two_none y z = y
two_append (two_more p r) y (all_more a z) = two_more (all_append p a) (two_append r y z)

-- what may follow a list: it holds of two of its own, and of one of the list and one of its own
pub record Joins {A : Type 0} (R : A → A → Type 0) (l m : List A) : Type 0 where
  pub two : Two R m
  pub across : All (λ x. All (R x) m) l

pub joins_none : {A : Type 0} (R : A → A → Type 0) (l : List A) → Joins R l []
joins_none R l = record { two = two_none; across = all_of l (λ x. all_none) }

pub joins_one : {A : Type 0} {R : A → A → Type 0} {l : List A} (y : A) → All (λ x. R x y) l → Joins R l (y ∷ [])
joins_one y h = record { two = two_more all_none two_none; across = all_map (λ x p. all_more p all_none) h }

pub joins_then :
    {A : Type 0} {R : A → A → Type 0} {l m k : List A} → Joins R l m → Joins R (l ++ m) k → Joins R l (m ++ k)
joins_then {l = l} {m = m} a b =
    record {
      two = two_append a.two b.two (all_right l m b.across);
      across = all_map (λ x p. all_append p.0 p.1) (all_both a.across (all_left l m b.across));
    }

pub two_joins : {A : Type 0} {R : A → A → Type 0} {l m : List A} → Two R l → Joins R l m → Two R (l ++ m)
two_joins h j = two_append h j.two j.across

pub two_keep : {A : Type 0} {R : A → A → Type 0} (q : A → Bool) {l : List A} → Two R l → Two R (keep q l)
unfolding keep
two_keep q two_none = two_none
two_keep q (two_more {x = x} p r) =
    split (q x) (λ e. rw e (two_more (all_keep q p) (two_keep q r))) (λ e. rw e (two_keep q r))

-- where the earlier one is kept
pub two_kept :
    {A : Type 0} {R : A → A → Type 0} (q : A → Bool) {l : List A} → Two (λ x y. q x ≡ true → R x y) l → Two R (keep q l)
unfolding keep
two_kept q two_none = two_none
two_kept q (two_more {x = x} p r) =
    split (q x)
    (λ e. rw e (two_more (all_keep q (all_map (λ y f. f e) p)) (two_kept q r)))
    (λ e. rw e (two_kept q r))

-- ---- all are kept, or none
pub keep_all : {A : Type 0} (q : A → Bool) {l : List A} → All (λ x. q x ≡ true) l → keep q l ≡ l
unfolding keep
keep_all q all_none = refl
keep_all q (all_more e r) = rw (e, keep_all q r)

pub keep_none : {A : Type 0} (q : A → Bool) {l : List A} → All (λ x. q x ≡ false) l → keep q l ≡ []
unfolding keep
keep_none q all_none = refl
keep_none q (all_more e r) = rw (e, keep_none q r)

-- ---- the last that passes
abbrev pub passing : {A : Type 0} → (A → Bool) → Option A → Option A
passing q none = none
passing q (some x) = choose (q x) (some x) none

pub latest_all :
    {A : Type 0} {P : A → Type 0} (p : A → Bool) {l : List A} {y : A}
    → All P l → latest p l ≡ some y → P y × (p y ≡ true)
unfolding latest
latest_all p all_none e = absurd (none_some e)
latest_all {P = P} p {y = y} (all_more {x = x} {l = l} h r) e =
    by_option (latest p l)
    (λ z q. let i : z ≡ y = some_same (rw q at e) in rw i at (latest_all p r q))
    (λ q. split (p x)
    (λ f. let i : x ≡ y = some_same (rw (q, f) at e) in (rw i at h, rw i at f))
    (λ f. absurd (none_some (rw (q, f) at e))))

-- none passes
pub latest_none : {A : Type 0} (p : A → Bool) (l : List A) → latest p l ≡ none → All (λ x. p x ≡ false) l
unfolding latest
latest_none p [] e = all_none
latest_none p (x ∷ l) e =
    by_option (latest p l)
    (λ z q. absurd (none_some (sym (rw q at e))))
    (λ q. split (p x)
    (λ f. absurd (none_some (sym (rw (q, f) at e))))
    (λ f. all_more f (latest_none p l q)))

-- where of two that pass the earlier one is not kept, the last kept one that passes is the last that passes, if it is kept
pub latest_keep :
    {A : Type 0} (p q : A → Bool) {l : List A}
    → Two (λ x y. p x ≡ true → p y ≡ true → q x ≡ false) l → latest p (keep q l) ≡ passing q (latest p l)
unfolding latest keep
latest_keep p q two_none = refl
latest_keep p q (two_more {x = x} {l = l} h r) =
    let i = latest_keep p q r in
    by_option (latest p l)
    (λ y e. split (q y)
    (λ f. split (q x) (λ g. rw (g, i, e, f)) (λ g. rw (g, i, e, f)))
    (λ f. split (q x)
    (λ g. split (p x)
    (λ k. let j = latest_all p h e in absurd (clash (sym g ∙ j.0 k j.1)))
    (λ k. rw (g, i, e, f, k)))
    (λ g. rw (g, i, e, f))))
    (λ e. split (q x)
    (λ g. split (p x) (λ k. rw (g, i, e, k, g)) (λ k. rw (g, i, e, k)))
    (λ g. split (p x) (λ k. rw (g, i, e, k, g)) (λ k. rw (g, i, e, k))))

-- ---- some member
pub data Any {A : Type 0} (P : A → Type 0) : List A → Type 0 where
  any_here : {x : A} {l : List A} → P x → Any P (x ∷ l)
  any_later : {x : A} {l : List A} → Any P l → Any P (x ∷ l)

pub any_map : {A : Type 0} {P Q : A → Type 0} {l : List A} → ((x : A) → P x → Q x) → Any P l → Any Q l
any_map f (any_here {x = x} p) = any_here (f x p)
any_map f (any_later r) = any_later (any_map f r)

pub any_left : {A : Type 0} {P : A → Type 0} {l : List A} (m : List A) → Any P l → Any P (l ++ m)
any_left m (any_here p) = any_here p
any_left m (any_later r) = any_later (any_left m r)

pub any_keep : {A : Type 0} {P : A → Type 0} (q : A → Bool) {l : List A} → Any (λ x. P x × (q x ≡ true)) l → Any P (keep q l)
unfolding keep
any_keep q (any_here p) = rw p.1 (any_here p.0)
any_keep q (any_later {x = x} r) =
    split (q x) (λ e. rw e (any_later (any_keep q r))) (λ e. rw e (any_keep q r))

pub any_unkeep : {A : Type 0} {P : A → Type 0} (q : A → Bool) (l : List A) → Any P (keep q l) → Any P l
unfolding keep
any_unkeep q [] r = r
any_unkeep {P = P} q (x ∷ l) r =
    split (q x)
    (λ e. first (rw e at r) (any_unkeep q l))
    (λ e. any_later (any_unkeep q l (rw e at r)))
  where
    first : Any P (x ∷ keep q l) → (Any P (keep q l) → Any P l) → Any P (x ∷ l)
    first (any_here p) f = any_here p
    first (any_later t) f = any_later (f t)

-- the last that passes is there, and is found if one passes
pub latest_any :
    {A : Type 0} {P : A → Type 0} (p : A → Bool) {l : List A} {y : A}
    → All P l → latest p l ≡ some y → Any (λ x. (p x ≡ true) × P x) l
unfolding latest
latest_any p all_none e = absurd (none_some e)
latest_any p (all_more {x = x} {l = l} h r) e =
    by_option (latest p l)
    (λ z q. any_later (latest_any p r q))
    (λ q. split (p x) (λ f. any_here (f, h)) (λ f. absurd (none_some (rw (q, f) at e))))

pub any_latest : {A : Type 0} (p : A → Bool) {l : List A} → Any (λ x. p x ≡ true) l → latest p l ≡ none → ⊥
unfolding latest
any_latest p (any_here {x = x} {l = l} h) e =
    by_option (latest p l) (λ z q. none_some (sym (rw q at e))) (λ q. none_some (sym (rw (q, h) at e)))
any_latest p (any_later {l = l} r) e =
    by_option (latest p l) (λ z q. none_some (sym (rw q at e))) (λ q. any_latest p r q)
