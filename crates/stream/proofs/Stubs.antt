-- A stub string, its bytes before the last and the last; and one at a place, as the code finds it.
-- For the framing of kind 1 records.
use mathlib.Core.Path.{◌≡◌, refl, sym, ap, ◌∙◌}
use mathlib.Core.Bool.{Bool, true, false, ◌&&◌}
use mathlib.Core.List.{List, [], ◌∷◌, ◌++◌}
use Prim.Native.Nat.{ℕ, ◌+◌, ◌-◌, ◌<◌, ◌≤◌}
use native.Mathlib.Omega.{arith}
use lib.Dec.{ltb, leb}
use lib.ListN.{length, take, drop}
use borrow.Author.Tests.{le-ltb, lt-ltb, ltb-true, ltb-false, le-leb, lt-leb, eq-eqb, ne_eqb}
use Rattle.std.specs.List.{list_all}
use Rattle.std.specs.Prelude.{Some, None}
use Rattle.paper.specs.Base.{choose}
use Rattle.paper.proofs.Tests.{split}
use Rattle.paper.specs.Lookup.{u32_at, stub_string, stub_at, stub_after, stub_if}
use Rattle.stream.specs.Framing.{string_stop}
use Rattle.stream.proofs.Strings.{stops, no_string, a_string}

-- ---- byte by byte
abbrev pub low : ℕ → Bool
low b = ltb b 128

and_same : (s t : Bool) → choose s t false ≡ (s && t)
and_same true t = refl
and_same false t = refl

no_other : (t : Bool) → choose t false false ≡ false
no_other true = refl
no_other false = refl

-- the last byte is high: the others have to be low
pub stub_high : (f : List ℕ) (b : ℕ) → 128 ≤ b → list_all low f ≡ stub_string (f ++ (b ∷ []))
unfolding stub_string
stub_high [] b h = sym (rw (le-ltb b 128 h))
stub_high (x ∷ []) b h = sym (and_same (low x) (choose (low b) false true) ∙ rw (le-ltb b 128 h))
stub_high (x ∷ y ∷ f) b h = ap (λ r. low x && r) (stub_high (y ∷ f) b h) ∙ sym (and_same (low x) (stub_string (y ∷ (f ++ (b ∷ [])))))

-- it is low: no stub string
pub stub_low : (f : List ℕ) (b : ℕ) → b < 128 → false ≡ stub_string (f ++ (b ∷ []))
unfolding stub_string
stub_low [] b h = sym (rw (lt-ltb b 128 h))
stub_low (x ∷ []) b h = sym (rw (lt-ltb b 128 h) (no_other (low x)))
stub_low (x ∷ y ∷ f) b h = sym (ap (λ r. choose (low x) r false) (sym (stub_low (y ∷ f) b h)) ∙ no_other (low x))

-- one of the others is high: no stub string; all are low: the last byte decides
pub stub_part : (f : List ℕ) (b : ℕ) → list_all low f ≡ false → false ≡ stub_string (f ++ (b ∷ []))
stub_part f b e = split (low b) (λ q. stub_low f b (ltb-true b 128 q)) (λ q. sym e ∙ stub_high f b (ltb-false b 128 q))

pub stub_last : (f : List ℕ) (b : ℕ) → list_all low f ≡ true → leb 128 b ≡ stub_string (f ++ (b ∷ []))
stub_last f b e =
    split (low b)
    (λ q. lt-leb 128 b (ltb-true b 128 q) ∙ stub_low f b (ltb-true b 128 q))
    (λ q. le-leb 128 b (ltb-false b 128 q) ∙ sym e ∙ stub_high f b (ltb-false b 128 q))

pub stub_none : (l : List ℕ) → length l ≡ 0 → false ≡ stub_string l
unfolding stub_string
stub_none [] e = refl
stub_none (b ∷ l) e = absurd (omega arith)

-- ---- at a place
module _ (l : List ℕ) (p e : ℕ) where
  pub at_none : string_stop l p e ≡ None → false ≡ stub_at l p e
  unfolding stub_at
  at_none z = sym (no_string l p e false _ z)

  pub after_none : string_stop l p e ≡ None → false ≡ stub_after l p e
  unfolding stub_after
  after_none z = sym (no_string l p e false _ z)

  pub at_string : {q : ℕ} → string_stop l p e ≡ Some q → stub_string (take (q - (p + 4)) (drop (p + 4) l)) ≡ stub_at l p e
  unfolding stub_at
  at_string {q} z =
      let s = stops l p e q z in
      let m : q - (p + 4) ≡ u32_at l p = omega (arith, s.is) in
      rw m (sym (a_string l p e false _ z))

  pub after_string : {q : ℕ} → string_stop l p e ≡ Some q → stub_at l q e ≡ stub_after l p e
  unfolding stub_after
  after_string {q} z = let s = stops l p e q z in rw s.is (sym (a_string l p e false _ z))

-- ---- by the kind
pub if_old : (k : ℕ) (l : List ℕ) (p e : ℕ) → k ≡ 1 → stub_after l p e ≡ stub_if k l p e
unfolding stub_if
if_old k l p e z = sym (rw (eq-eqb k 1 z))

pub if_other : (k : ℕ) (l : List ℕ) (p e : ℕ) → (k ≡ 1 → ⊥) → true ≡ stub_if k l p e
unfolding stub_if
if_other k l p e z = sym (rw (ne_eqb k 1 z))
