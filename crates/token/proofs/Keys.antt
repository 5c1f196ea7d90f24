-- Two bytes compared as slices are, and as the definition of a keyword does.
-- Assumes nothing.
use mathlib.Core.Path.{◌≡◌, refl, subst}
use mathlib.Core.List.{List, [], ◌∷◌}
use Prim.Native.Nat.{ℕ}
use native.Mathlib.Omega.{arith}
use lib.Dec.{eqb}
use lib.ListN.{length, get_or}
use Rattle.std.specs.Str.{bytes_eq}
use Rattle.paper.specs.Base.{sameb}
use Rattle.paper.proofs.Tests.{split}

same_bytes : (l m : List ℕ) → bytes_eq l m ≡ sameb l m
unfolding sameb
same_bytes [] [] = refl
same_bytes [] (y ∷ m) = refl
same_bytes (x ∷ l) [] = refl
same_bytes (x ∷ l) (y ∷ m) = split (eqb x y) (λ e. rw e (same_bytes l m)) (λ e. rw e)

pair_is : (k : List ℕ) → length k ≡ 2 → k ≡ get_or k 0 0 ∷ get_or k 1 0 ∷ []
pair_is [] h = absurd (omega arith)
pair_is (x ∷ []) h = absurd (omega arith)
pair_is (x ∷ y ∷ []) h = refl
pair_is (x ∷ y ∷ z ∷ l) h = absurd (omega arith)

pub same_key : (l k : List ℕ) → length k ≡ 2 → bytes_eq l k ≡ sameb l (get_or k 0 0 ∷ get_or k 1 0 ∷ [])
same_key l k h = subst (λ (m : List ℕ). bytes_eq l k ≡ sameb l m) (pair_is k h) (same_bytes l k)
