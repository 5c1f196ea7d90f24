-- A string at a place: where it stops, and what is asked of it by cases as the definitions do.
-- For the framing of records, and for what is asked of them.
use mathlib.Core.Path.{◌≡◌, refl, sym}
use mathlib.Core.Bool.{Bool, true, false}
use mathlib.Core.List.{List}
use Prim.Native.Nat.{ℕ, ◌+◌, ◌<◌, ◌≤◌}
use native.Mathlib.Omega.{arith}
use lib.Dec.{ltb}
use borrow.Author.Tests.{lt-ltb, le-ltb, ltb-false}
use Rattle.std.specs.Prelude.{Some, None}
use Rattle.std.proofs.lemmas.Option.{none-some}
use Rattle.paper.specs.Base.{choose}
use Rattle.paper.specs.Lookup.{u32_at}
use Rattle.stream.specs.Framing.{string_stop}
use Rattle.stream.proofs.Past.{past}

-- ---- test by test, as the code makes them
module _ (l : List ℕ) (p e : ℕ) where
  pub stop_short : e < p + 4 → None ≡ string_stop l p e
  unfolding string_stop
  stop_short h = sym (rw (lt-ltb e (p + 4) h))

  module _ (h : p + 4 ≤ e) (n : ℕ) (size : n ≡ u32_at l p) where
    pub stop_over : e < (p + 4) + n → None ≡ string_stop l p e
    unfolding string_stop
    stop_over g = sym (rw (le-ltb e (p + 4) h, ← size, lt-ltb e ((p + 4) + n) g))

    pub stop_there : (p + 4) + n ≤ e → Some ((p + 4) + n) ≡ string_stop l p e
    unfolding string_stop
    stop_there g = sym (rw (le-ltb e (p + 4) h, ← size, le-ltb e ((p + 4) + n) g))

-- ---- by what the code answers
pub record Stops (l : List ℕ) (p e q : ℕ) : Type 0 where
  pub start : p + 4 ≤ q
  pub within : q ≤ e
  pub is : q ≡ (p + 4) + u32_at l p

pub stops : (l : List ℕ) (p e q : ℕ) → string_stop l p e ≡ Some q → Stops l p e q
unfolding string_stop
stops l p e q z =
    let a = past (ltb e (p + 4)) _ _ _ (none-some q) z in
    let b = past (ltb e ((p + 4) + u32_at l p)) _ _ _ (none-some q) a.rest in
    let c : (p + 4) + u32_at l p ≡ q = cc in
    record { start = omega arith; within = omega (arith, ltb-false e ((p + 4) + u32_at l p) b.test); is = sym c }

-- what is asked of a string by its two tests: nothing, or what is asked where it stops
neither : {A : Type 0} (s t : Bool) (d x : A) (q : ℕ) → choose s None (choose t None (Some q)) ≡ None → choose s d (choose t d x) ≡ d
neither true t d x q z = refl
neither false true d x q z = refl
neither false false d x q z = absurd (none-some q (sym z))

both : {A : Type 0} (s t : Bool) (d x : A) (q r : ℕ) → choose s None (choose t None (Some q)) ≡ Some r → choose s d (choose t d x) ≡ x
both true t d x q r z = absurd (none-some r z)
both false true d x q r z = absurd (none-some r z)
both false false d x q r z = refl

module _ {A : Type 0} (l : List ℕ) (p e : ℕ) (d x : A) where
  pub no_string : string_stop l p e ≡ None → choose (ltb e (p + 4)) d (choose (ltb e ((p + 4) + u32_at l p)) d x) ≡ d
  unfolding string_stop
  no_string z = neither (ltb e (p + 4)) (ltb e ((p + 4) + u32_at l p)) d x ((p + 4) + u32_at l p) z

  pub a_string : {q : ℕ} → string_stop l p e ≡ Some q → choose (ltb e (p + 4)) d (choose (ltb e ((p + 4) + u32_at l p)) d x) ≡ x
  unfolding string_stop
  a_string {q} z = both (ltb e (p + 4)) (ltb e ((p + 4) + u32_at l p)) d x ((p + 4) + u32_at l p) q z
