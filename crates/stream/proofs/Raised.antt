-- Bytes with the last one raised: the bytes before it, and it; and why it can be raised.
-- For the writer of such bytes and its callers.
use mathlib.Core.Path.{◌≡◌, refl, sym, ap}
use mathlib.Core.Bool.{true}
use mathlib.Core.List.{List, [], ◌∷◌, ◌++◌}
use Prim.Native.Nat.{ℕ, zero, suc, ◌+◌, ◌-◌, ◌<◌}
use native.Mathlib.Omega.{arith}
use lib.Dec.{leb}
use lib.ListN.{length, get_or}
use borrow.Author.Tests.{leb-true}
use Rattle.paper.specs.Base.{all}
use Rattle.paper.specs.Bytes.{printable, math_byte}
use Rattle.paper.specs.Expressions.{raised}
use Rattle.paper.proofs.Tests.{split, clash}

pub raised_none : (l : List ℕ) → length l ≡ 0 → raised l ≡ []
unfolding raised
raised_none [] e = refl
raised_none (b ∷ l) e = absurd (omega arith)

pub raised_front : (f : List ℕ) (b : ℕ) → raised (f ++ (b ∷ [])) ≡ f ++ ((b + 128) ∷ [])
unfolding raised
raised_front [] b = refl
raised_front (x ∷ []) b = refl
raised_front (x ∷ y ∷ f) b = ap (λ r. x ∷ r) (raised_front (y ∷ f) b)

pub length_raised : (l : List ℕ) → length (raised l) ≡ length l
unfolding raised
length_raised [] = refl
length_raised (b ∷ []) = refl
length_raised (b ∷ c ∷ l) = ap suc (length_raised (c ∷ l))

low : (b : ℕ) → math_byte b ≡ true → b < 128
unfolding math_byte printable
low b h =
    split (leb 33 b)
    (λ p. split (leb b 126) (λ q. omega (arith, leb-true b 126 q)) (λ q. absurd (clash (sym (rw (p, q) at h)))))
    (λ p. absurd (clash (sym (rw p at h))))

low_at : (l : List ℕ) (i : ℕ) → all math_byte l ≡ true → get_or l i 0 < 128
unfolding all
low_at [] i h = omega arith
low_at (b ∷ l) zero h = split (math_byte b) (low b) (λ q. absurd (clash (sym (rw q at h))))
low_at (b ∷ l) (suc i) h = split (math_byte b) (λ q. low_at l i (rw q at h)) (λ q. absurd (clash (sym (rw q at h))))

-- the last byte of a math token can be raised
pub low_last : (l : List ℕ) → all math_byte l ≡ true → get_or l (length l - 1) 0 < 128
low_last l h = low_at l (length l - 1) h
