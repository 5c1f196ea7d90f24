-- What a class tells of a byte, and the least class of a token of the token: each property is one comparison.
-- Assumes nothing.
use mathlib.Core.Path.{◌≡◌, refl, sym, ◌∙◌}
use mathlib.Core.Bool.{Bool, true, false}
use mathlib.Core.List.{List, [], ◌∷◌}
use Prim.Native.Nat.{ℕ, ◌≤◌, min}
use native.Mathlib.Omega.{arith}
use lib.Dec.{eqb, leb}
use borrow.Author.Tests.{leb-true, leb-false, eqb-true, lt-leb, le-leb, ne_eqb, eq-eqb}
use Rattle.paper.specs.Base.{choose, and, or, not, within, all}
use Rattle.paper.specs.Bytes.{white, printable, label_byte, math_byte}
use Rattle.paper.proofs.Tests.{split, clash}
use Rattle.token.specs.Class.{class, least}

-- what holds in both arms of a choice by two tests
by_or : {P : Type 0} (a b : Bool) → or a b ≡ true → (a ≡ true → P) → (b ≡ true → P) → P
by_or true b e f g = f refl
by_or false b e f g = g e

within_le : (lo hi n : ℕ) → within lo hi n ≡ true → (lo ≤ n) × (n ≤ hi)
within_le lo hi n e =
    split (leb lo n)
    (λ p. (leb-true lo n p, leb-true n hi (rw p at e)))
    (λ p. absurd (clash (sym (rw p at e))))

pub white_low : (b : ℕ) → white b ≡ true → b ≤ 32
unfolding white
white_low b e =
    by_or (within 9 10 b) _ e (λ p. omega (arith, within_le 9 10 b p))
    (λ q. by_or (within 12 13 b) _ q (λ p. omega (arith, within_le 12 13 b p)) (λ p. omega (arith, eqb-true b 32 p)))

-- white space is not printable
white_alone : (b : ℕ) → white b ≡ true → printable b ≡ false
unfolding printable
white_alone b e = rw (lt-leb 33 b (omega (arith, white_low b e)))

-- a byte of a label is printable, and no `$`
label_range : (b : ℕ) → label_byte b ≡ true → (45 ≤ b) × (b ≤ 122)
unfolding label_byte
label_range b e =
    by_or (within 65 90 b) _ e (λ p. let h = within_le 65 90 b p in (omega arith, omega arith))
    (λ q. by_or (within 97 122 b) _ q (λ p. let h = within_le 97 122 b p in (omega arith, omega arith))
    (λ r. by_or (within 48 57 b) _ r (λ p. let h = within_le 48 57 b p in (omega arith, omega arith))
    (λ s. by_or (eqb b 45) _ s (λ p. let h = eqb-true b 45 p in (omega arith, omega arith))
    (λ t. by_or (eqb b 95) _ t (λ p. let h = eqb-true b 95 p in (omega arith, omega arith))
    (λ p. let h = eqb-true b 46 p in (omega arith, omega arith))))))

label_printable : (b : ℕ) → label_byte b ≡ true → printable b ≡ true
unfolding printable
label_printable b e =
    let h = label_range b e in rw (le-leb 33 b (omega arith)) (le-leb b 126 (omega arith))

label_math : (b : ℕ) → label_byte b ≡ true → math_byte b ≡ true
unfolding math_byte
label_math b e =
    let h = label_range b e in
    rw (label_printable b e, ne_eqb b 36 (λ q. omega arith))

-- by the four tests of a class
number : Bool → Bool → Bool → Bool → ℕ
number w p d l = choose w 1 (choose p (choose d 2 (choose l 4 3)) 0)

white_is : (w p d l : Bool) → eqb (number w p d l) 1 ≡ w
unfolding number
white_is true p d l = refl
white_is false true true l = refl
white_is false true false true = refl
white_is false true false false = refl
white_is false false d l = refl

bad_is : (w p d l : Bool) → eqb (number w p d l) 0 ≡ not (or w p)
unfolding number
bad_is true p d l = refl
bad_is false true true l = refl
bad_is false true false true = refl
bad_is false true false false = refl
bad_is false false d l = refl

math_is : (w p d l : Bool) → (w ≡ true → p ≡ false) → leb 3 (number w p d l) ≡ and p (not d)
unfolding number
math_is true p d l h = rw (h refl)
math_is false true true l h = refl
math_is false true false true h = refl
math_is false true false false h = refl
math_is false false d l h = refl

label_is : (w p d l : Bool) → (w ≡ true → p ≡ false) → (l ≡ true → and p (not d) ≡ true) → leb 4 (number w p d l) ≡ l
unfolding number
label_is true p d true h k = let z : false ≡ true = rw (h refl) at (k refl) in cc
label_is true p d false h k = refl
label_is false true true true h k = let z : false ≡ true = k refl in cc
label_is false true true false h k = refl
label_is false true false true h k = refl
label_is false true false false h k = refl
label_is false false d true h k = let z : false ≡ true = k refl in cc
label_is false false d false h k = refl

module _ (b : ℕ) where
  pub class_white : eqb (class b) 1 ≡ white b
  unfolding class number
  class_white = white_is (white b) (printable b) (eqb b 36) (label_byte b)

  pub class_bad : eqb (class b) 0 ≡ not (or (white b) (printable b))
  unfolding class number
  class_bad = bad_is (white b) (printable b) (eqb b 36) (label_byte b)

  pub class_math : leb 3 (class b) ≡ math_byte b
  unfolding class number math_byte
  class_math = math_is (white b) (printable b) (eqb b 36) (label_byte b) (white_alone b)

  label_and : label_byte b ≡ true → and (printable b) (not (eqb b 36)) ≡ true
  unfolding math_byte
  label_and = label_math b

  pub class_label : leb 4 (class b) ≡ label_byte b
  unfolding class number
  class_label = label_is (white b) (printable b) (eqb b 36) (label_byte b) (white_alone b) label_and

-- the least class is at least k if all are
leb_min : (k a b : ℕ) → leb k (min a b) ≡ and (leb k a) (leb k b)
leb_min k a b =
    split (leb k a)
    (λ p. rw p (split (leb k b)
    (λ q. rw q (le-leb k (min a b) (omega (arith, leb-true k a p, leb-true k b q))))
    (λ q. rw q (lt-leb k (min a b) (omega (arith, leb-false k b q))))))
    (λ p. rw p (lt-leb k (min a b) (omega (arith, leb-false k a p))))

leb_least : (k : ℕ) (f : ℕ → Bool) → ((b : ℕ) → leb k (class b) ≡ f b) → (l : List ℕ) (a : ℕ) → leb k (least l a) ≡ and (leb k a) (all f l)
unfolding least all
leb_least k f h [] a = split (leb k a) (λ e. rw e) (λ e. rw e)
leb_least k f h (b ∷ l) a =
    leb_least k f h l (min a (class b))
    ∙ rw (leb_min k a (class b), h b)
    (split (leb k a) (λ e. rw e (split (f b) (λ q. rw q) (λ q. rw q))) (λ e. rw e))

pub least_label : (l : List ℕ) → leb 4 (least l 4) ≡ all label_byte l
least_label l = leb_least 4 label_byte class_label l 4

pub least_math : (l : List ℕ) → leb 3 (least l 4) ≡ all math_byte l
least_math l = leb_least 3 math_byte class_math l 4

-- what a comparison in the code says of a byte b of class c
module _ (b : ℕ) {c : ℕ} (p : c ≡ class b) where
  pub is_white : c ≡ 1 → white b ≡ true
  is_white e = sym (class_white b) ∙ eq-eqb (class b) 1 (sym p ∙ e)

  pub not_white : (c ≡ 1 → ⊥) → white b ≡ false
  not_white n = sym (class_white b) ∙ ne_eqb (class b) 1 (λ e. n (p ∙ e))
