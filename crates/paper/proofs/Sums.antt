-- The sum of a number over a list, and lengths as such sums.
-- For every crate; nothing here is about Metamath.
use mathlib.Core.Path.{◌≡◌, refl, ap}
use mathlib.Core.Bool.{Bool}
use mathlib.Core.List.{List, [], ◌∷◌, ◌++◌, map}
use Prim.Native.Nat.{ℕ, ◌+◌, ◌*◌, ◌≤◌}
use native.Mathlib.Omega.{arith}
use lib.ListN.{length, length-append}
use Rattle.paper.specs.Base.{keep, gather}
use Rattle.paper.proofs.Tests.{split}

unfoldable pub total : {A : Type 0} → (A → ℕ) → List A → ℕ
total f [] = 0
total f (x ∷ l) = f x + total f l

pub total_append : {A : Type 0} (f : A → ℕ) (l m : List A) → total f (l ++ m) ≡ total f l + total f m
unfolding total
total_append f [] m = omega arith
total_append f (x ∷ l) m = omega (arith, total_append f l m)

pub total_keep : {A : Type 0} (f : A → ℕ) (p : A → Bool) (l : List A) → total f (keep p l) ≤ total f l
unfolding total keep
total_keep f p [] = omega arith
total_keep f p (x ∷ l) =
    split (p x) (λ e. rw e (omega (arith, total_keep f p l))) (λ e. rw e (omega (arith, total_keep f p l)))

pub total_map : {A B : Type 0} (f : B → ℕ) (g : A → B) (l : List A) → total f (map g l) ≡ total (λ x. f (g x)) l
unfolding total
total_map f g [] = refl
total_map f g (x ∷ l) = ap (λ (n : ℕ). f (g x) + n) (total_map f g l)

pub total_gather : {A B : Type 0} (f : B → ℕ) (g : A → List B) (l : List A)
    → total f (gather g l) ≡ total (λ x. total f (g x)) l
unfolding total gather
total_gather f g [] = refl
total_gather f g (x ∷ l) = omega (arith, total_append f (g x) (gather g l), total_gather f g l)

-- at most k times as much
pub total_times : {A : Type 0} (k : ℕ) (f g : A → ℕ) → ((x : A) → f x ≤ k * g x) → (l : List A)
    → total f l ≤ k * total g l
unfolding total
total_times k f g h [] = omega arith
total_times k f g h (x ∷ l) = omega (arith, h x, total_times k f g h l)

pub length_gather : {A B : Type 0} (f : A → List B) (l : List A) → length (gather f l) ≡ total (λ x. length (f x)) l
unfolding total gather
length_gather f [] = refl
length_gather f (x ∷ l) = omega (arith, length-append (f x) (gather f l), length_gather f l)
