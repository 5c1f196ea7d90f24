-- Names in the order of first sight: members, places, and what further names add.
-- For every crate; a place is `index`, first sight is `sights`.
use mathlib.Core.Path.{◌≡◌, refl, sym, ap, ◌∙◌}
use mathlib.Core.Bool.{Bool, true, false}
use mathlib.Core.List.{List, [], ◌∷◌, ◌++◌, append_assoc, append-nil}
use Prim.Native.Nat.{ℕ, zero, suc, ◌+◌, ◌<◌, ◌≤◌}
use native.Mathlib.Omega.{arith}
use lib.Dec.{ltb}
use lib.ListN.{length, get_or, length-append, get_or-append}
use lib.Seq.{get_or-append-add}
use borrow.Author.Tests.{ltb-true, ltb-false}
use Rattle.paper.specs.Base.{or, sameb, any}
use Rattle.paper.specs.Variables.{member, see, sights, index}
use Rattle.paper.proofs.Tests.{split, clash, same_refl, same_eq, eq_same, ne_same}

pub same_sym : (x y : List ℕ) → sameb x y ≡ sameb y x
same_sym x y =
    split (sameb y x) (λ e. rw e (eq_same x y (sym (same_eq y x e))))
    (λ e. rw e (ne_same x y (λ q. clash (sym (eq_same y x (sym q)) ∙ e))))

pub any_append : {A : Type 0} (p : A → Bool) (l m : List A) → any p (l ++ m) ≡ or (any p l) (any p m)
unfolding any
any_append p [] m = refl
any_append p (x ∷ l) m = split (p x) (λ e. rw e) (λ e. rw e (any_append p l m))

-- ---- members of one list after another
module _ (x : List ℕ) (l m : List (List ℕ)) where
  pub member_left : member x l ≡ true → member x (l ++ m) ≡ true
  member_left e = any_append (sameb x) l m ∙ rw e

  pub member_right : member x l ≡ false → member x (l ++ m) ≡ member x m
  member_right e = any_append (sameb x) l m ∙ rw e

  pub member_none : member x (l ++ m) ≡ false → member x l ≡ false
  member_none e = split (member x l) (λ q. absurd (clash (sym (member_left q) ∙ e))) (λ q. q)

pub member_one : (x y : List ℕ) → member x (y ∷ []) ≡ sameb x y
unfolding any
member_one x y = split (sameb x y) (λ e. rw e) (λ e. rw e)

-- ---- the place of a name
pub index_in : (x : List ℕ) (l m : List (List ℕ)) → member x l ≡ true → index (l ++ m) x ≡ index l x
unfolding any index
index_in x [] m e = absurd (clash (sym e))
index_in x (y ∷ l) m e =
    split (sameb x y) (λ q. let z : sameb y x ≡ true = same_sym y x ∙ q in rw z)
    (λ q. let z : sameb y x ≡ false = same_sym y x ∙ q in rw z (ap suc (index_in x l m (rw q at e))))

pub index_past : (x : List ℕ) (l m : List (List ℕ)) → member x l ≡ false → index (l ++ m) x ≡ length l + index m x
unfolding any index
index_past x [] m e = omega arith
index_past x (y ∷ l) m e =
    split (sameb x y) (λ q. let z : true ≡ false = rw q at e in absurd (clash z))
    (λ q. let z : sameb y x ≡ false = same_sym y x ∙ q in rw z (omega (arith, index_past x l m (rw q at e))))

pub index_lt : (x : List ℕ) (l : List (List ℕ)) → member x l ≡ true → index l x < length l
unfolding any index
index_lt x [] e = absurd (clash (sym e))
index_lt x (y ∷ l) e =
    split (sameb x y) (λ q. let z : sameb y x ≡ true = same_sym y x ∙ q in rw z (omega arith))
    (λ q. let z : sameb y x ≡ false = same_sym y x ∙ q in rw z (omega (arith, index_lt x l (rw q at e))))

pub index_at : (x : List ℕ) (l : List (List ℕ)) → member x l ≡ true → get_or l (index l x) [] ≡ x
unfolding any index
index_at x [] e = absurd (clash (sym e))
index_at x (y ∷ l) e =
    split (sameb x y) (λ q. let z : sameb y x ≡ true = same_sym y x ∙ q in rw z (sym (same_eq x y q)))
    (λ q. let z : sameb y x ≡ false = same_sym y x ∙ q in rw z (index_at x l (rw q at e)))

pub index_none : (x : List ℕ) (l : List (List ℕ)) → member x l ≡ false → length l ≤ index l x
index_none x l e = omega (arith, index_past x l [] e, ap (λ m. index m x) (append-nil l))

pub member_at : (l : List (List ℕ)) (a : ℕ) → a < length l → member (get_or l a []) l ≡ true
unfolding any
member_at [] a h = absurd (omega arith)
member_at (y ∷ l) zero h = rw (same_refl y)
member_at (y ∷ l) (suc a) h =
    split (sameb (get_or l a []) y) (λ e. rw e) (λ e. rw e (member_at l a (omega (arith, h))))

-- names with one place are one name
pub index_same : (x y : List ℕ) (l : List (List ℕ)) → member x l ≡ true → member y l ≡ true → index l x ≡ index l y → x ≡ y
index_same x y l p q e = sym (index_at x l p) ∙ ap (λ a. get_or l a []) e ∙ index_at y l q

-- ---- one more name
module _ (l : List (List ℕ)) (x : List ℕ) where
  pub see_old : member x l ≡ true → see l x ≡ l
  see_old e = rw e

  pub see_new : member x l ≡ false → see l x ≡ l ++ (x ∷ [])
  see_new e = rw e

  pub see_self : member x (see l x) ≡ true
  see_self =
      split (member x l) (λ e. rw e e)
      (λ e. rw e (member_right x l (x ∷ []) e ∙ member_one x x ∙ same_refl x))

  pub see_keeps : (y : List ℕ) → member y l ≡ true → member y (see l x) ≡ true
  see_keeps y h = split (member x l) (λ e. rw e h) (λ e. rw e (member_left y l (x ∷ []) h))

  pub see_length : length (see l x) ≤ length l + 1
  see_length = split (member x l) (λ e. rw e (omega arith)) (λ e. rw e (omega (arith, length-append l (x ∷ []))))

-- ---- a list that others were added to
pub record Grown (l m : List (List ℕ)) : Type 0 where
  pub more : List (List ℕ)
  pub is : m ≡ l ++ more

pub grown_none : (l : List (List ℕ)) → Grown l l
grown_none l = record { more = []; is = sym (append-nil l) }

pub grown_then : {l m k : List (List ℕ)} → Grown l m → Grown m k → Grown l k
grown_then {l} x y =
    record { more = x.more ++ y.more; is = y.is ∙ rw x.is (append_assoc l x.more y.more) }

module _ {l m : List (List ℕ)} (g : Grown l m) where
  pub grown_length : length l ≤ length m
  grown_length = omega (arith, ap length g.is, length-append l g.more)

  pub grown_member : (x : List ℕ) → member x l ≡ true → member x m ≡ true
  grown_member x e = rw g.is (member_left x l g.more e)

  pub grown_index : (x : List ℕ) → member x l ≡ true → index m x ≡ index l x
  grown_index x e = rw g.is (index_in x l g.more e)

pub see_grown : (l : List (List ℕ)) (x : List ℕ) → Grown l (see l x)
see_grown l x =
    split (member x l) (λ e. rw e (grown_none l)) (λ e. rw e (record { more = x ∷ []; is = refl }))

-- ---- first sight
pub sights_append : (m k l : List (List ℕ)) → sights (m ++ k) l ≡ sights k (sights m l)
unfolding sights
sights_append [] k l = refl
sights_append (x ∷ m) k l = sights_append m k (see l x)

pub sights_one : (m : List (List ℕ)) (x : List ℕ) (l : List (List ℕ)) → sights (m ++ (x ∷ [])) l ≡ see (sights m l) x
unfolding sights
sights_one m x l = sights_append m (x ∷ []) l

pub sights_grown : (m l : List (List ℕ)) → Grown l (sights m l)
unfolding sights
sights_grown [] l = grown_none l
sights_grown (x ∷ m) l = grown_then (see_grown l x) (sights_grown m (see l x))

pub sights_length : (m l : List (List ℕ)) → length (sights m l) ≤ length l + length m
unfolding sights
sights_length [] l = omega arith
sights_length (x ∷ m) l = omega (arith, sights_length m (see l x), see_length l x)

pub sights_member : (x : List ℕ) (m l : List (List ℕ)) → member x m ≡ true → member x (sights m l) ≡ true
unfolding any sights
sights_member x [] l e = absurd (clash (sym e))
sights_member x (y ∷ m) l e =
    split (sameb x y)
    (λ q. let d : x ≡ y = same_eq x y q in
    grown_member (sights_grown m (see l y)) x (rw d (see_self l y)))
    (λ q. sights_member x m (see l y) (rw q at e))

-- ---- no name stands twice
pub record Distinct (l : List (List ℕ)) : Type 0 where
  pub place : (a : ℕ) → a < length l → index l (get_or l a []) ≡ a

pub distinct_none : Distinct []
distinct_none = record { place = λ a h. absurd (omega (arith, h)) }

pub distinct_see : (l : List (List ℕ)) (x : List ℕ) → Distinct l → Distinct (see l x)
unfolding index
distinct_see l x d =
    split (member x l) (λ e. rw e d)
    (λ e. rw e (record { place = λ a h. placed e a h }))
  where
    placed : member x l ≡ false → (a : ℕ) → a < length (l ++ (x ∷ [])) → index (l ++ (x ∷ [])) (get_or (l ++ (x ∷ [])) a []) ≡ a
    placed e a h =
        split (ltb a (length l))
        (λ q. let k : a < length l = ltb-true _ _ q in
        rw (get_or-append l (x ∷ []) [] a k)
        (index_in (get_or l a []) l (x ∷ []) (member_at l a k) ∙ d.place a k))
        (λ q. let k : length l ≤ a = ltb-false _ _ q in
        let s : a ≡ length l + 0 = omega (arith, length-append l (x ∷ []), h) in
        ap (λ b. index (l ++ (x ∷ [])) (get_or (l ++ (x ∷ [])) b [])) s
        ∙ rw (get_or-append-add l (x ∷ []) 0 []) (index_past x l (x ∷ []) e ∙ rw (same_refl x) (sym s)))

pub distinct_sights : (m l : List (List ℕ)) → Distinct l → Distinct (sights m l)
unfolding sights
distinct_sights [] l d = d
distinct_sights (x ∷ m) l d = distinct_sights m (see l x) (distinct_see l x d)
