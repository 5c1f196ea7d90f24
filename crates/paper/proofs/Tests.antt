-- Tests and what they say: by cases on a test, bytes compared, a test that cannot come out both ways.
-- For every crate; nothing here is about Metamath.
use mathlib.Core.Path.{◌≡◌, refl, sym, ◌∙◌}
use mathlib.Core.Bool.{Bool, true, false}
use mathlib.Core.List.{List, [], ◌∷◌}
use mathlib.Core.Option.{Option, none, some}
use Prim.Native.Nat.{ℕ}
use native.Mathlib.Omega.{arith}
use lib.Dec.{eqb}
use borrow.Author.Tests.{eq-eqb, eqb-true}
use Rattle.paper.specs.Base.{sameb}

-- by cases on a test, with what it says
pub split : {P : Type 0} (w : Bool) → (w ≡ true → P) → (w ≡ false → P) → P
split true f g = f refl
split false f g = g refl

-- by cases on an option, with what it says
pub by_option : {A P : Type 0} (o : Option A) → ((x : A) → o ≡ some x → P) → (o ≡ none → P) → P
by_option (some x) f g = f x refl
by_option none f g = g refl

-- a test cannot come out both ways; a failed test refutes the equation
pub clash : true ≡ false → ⊥
clash z = let y : ◌≡◌ {A = ℕ} 0 1 = cc in omega arith

pub eqb_ne : {x y : ℕ} → eqb x y ≡ false → x ≡ y → ⊥
eqb_ne {x} {y} q d = clash (sym (eq-eqb x y d) ∙ q)

pub same_refl : (x : List ℕ) → sameb x x ≡ true
unfolding sameb
same_refl [] = refl
same_refl (b ∷ x) = rw (eq-eqb b b refl) (same_refl x)

pub same_eq : (x y : List ℕ) → sameb x y ≡ true → x ≡ y
unfolding sameb
same_eq [] [] e = refl
same_eq [] (c ∷ y) e = let z : false ≡ true = e in cc
same_eq (b ∷ x) [] e = let z : false ≡ true = e in cc
same_eq (b ∷ x) (c ∷ y) e =
    split (eqb b c)
    (λ q. let p : b ≡ c = eqb-true b c q in let r : x ≡ y = same_eq x y (rw q at e) in cc)
    (λ q. let z : false ≡ true = rw q at e in cc)

-- an equation gives the test, a refutation its failure
pub eq_same : (x y : List ℕ) → x ≡ y → sameb x y ≡ true
eq_same x y e = rw e (same_refl y)

pub ne_same : (x y : List ℕ) → (x ≡ y → ⊥) → sameb x y ≡ false
ne_same x y n = split (sameb x y) (λ q. absurd (n (same_eq x y q))) (λ q. q)
