-- Bytes with 128 taken off the last one: their number, the bytes before, and that a stub string has such a last byte.
-- For the converter and the laws of what it writes.
use mathlib.Core.Path.{◌≡◌, refl, sym, ap}
use mathlib.Core.Bool.{true}
use mathlib.Core.List.{List, [], ◌∷◌, ◌++◌}
use Prim.Native.Nat.{ℕ, zero, suc, ◌+◌, ◌-◌, ◌<◌}
use native.Mathlib.Nat.{not-suc-le-zero}
use native.Mathlib.Omega.{arith}
use lib.Dec.{ltb}
use lib.ListN.{length, get_or, take, drop, length-drop, length-append}
use lib.Seq.{get_or-drop, get_or-append-add}
use borrow.Author.Tests.{ltb-false}
use Rattle.paper.specs.Lookup.{stub_string}
use Rattle.paper.specs.Layout.{lowered}
use Rattle.paper.proofs.Tests.{split, clash}
use Rattle.layout.specs.Lowers.{Lowers}

pub lowered_none : (l : List ℕ) → length l ≡ 0 → lowered l ≡ []
unfolding lowered
lowered_none [] e = refl
lowered_none (b ∷ l) e = absurd (omega arith)

pub lowered_front : (f : List ℕ) (b : ℕ) → lowered (f ++ (b ∷ [])) ≡ f ++ ((b - 128) ∷ [])
unfolding lowered
lowered_front [] b = refl
lowered_front (x ∷ []) b = refl
lowered_front (x ∷ y ∷ f) b = ap (λ r. x ∷ r) (lowered_front (y ∷ f) b)

-- the last byte, by its place
pub last_is : (f : List ℕ) (b : ℕ) → get_or (f ++ (b ∷ [])) (length (f ++ (b ∷ [])) - 1) 0 ≡ b
last_is f b =
    let e : length (f ++ (b ∷ [])) - 1 ≡ length f + 0 = omega (arith, length-append f (b ∷ [])) in
    rw e (get_or-append-add f (b ∷ []) 0 0)

pub lowered_length : (l : List ℕ) → length (lowered l) ≡ length l
unfolding lowered
lowered_length [] = refl
lowered_length (b ∷ []) = refl
lowered_length (b ∷ c ∷ l) = ap suc (lowered_length (c ∷ l))

-- the bytes before the last
pub lowered_take : (l : List ℕ) (k : ℕ) → k < length l → take k (lowered l) ≡ take k l
unfolding lowered
lowered_take l zero h = refl
lowered_take [] (suc k) h = absurd (not-suc-le-zero h)
lowered_take (b ∷ []) (suc k) h = absurd (omega arith)
lowered_take (b ∷ c ∷ l) (suc k) h = ap (λ r. b ∷ r) (lowered_take (c ∷ l) k (omega arith))

pub lowered_drop : (l : List ℕ) (k : ℕ) → k < length l → drop k (lowered l) ≡ lowered (drop k l)
unfolding lowered
lowered_drop l zero h = refl
lowered_drop [] (suc k) h = absurd (not-suc-le-zero h)
lowered_drop (b ∷ []) (suc k) h = absurd (omega arith)
lowered_drop (b ∷ c ∷ l) (suc k) h = lowered_drop (c ∷ l) k (omega arith)

-- ---- a stub string
pub stub_lowers : (l : List ℕ) → stub_string l ≡ true → Lowers l
unfolding stub_string
stub_lowers [] e = absurd (clash (sym e))
stub_lowers (b ∷ []) e =
    split (ltb b 128)
    (λ t. absurd (clash (sym (rw t at e))))
    (λ t. record { some = omega arith; high = ltb-false b 128 t })
stub_lowers (b ∷ c ∷ l) e =
    split (ltb b 128)
    (λ t. let r = stub_lowers (c ∷ l) (rw t at e) in let i : suc (suc (length l)) - 1 ≡ suc (suc (length l) - 1) = omega arith in
    record { some = omega arith; high = rw i r.high })
    (λ t. absurd (clash (sym (rw t at e))))

-- the last byte of bytes is that of what is left of them
pub lowers_drop : (l : List ℕ) (k : ℕ) → Lowers (drop k l) → Lowers l
lowers_drop l k a =
    let n : length (drop k l) ≡ length l - k = length-drop k l in
    let i : k + (length (drop k l) - 1) ≡ length l - 1 = omega (arith, a.some) in
    record {
      some = omega (arith, a.some);
      high = rw (get_or-drop k l (length (drop k l) - 1) 0, i) at a.high;
    }
