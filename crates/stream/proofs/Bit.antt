-- Bits of bytes: what the code's shifts give, where a bit stands in bytes that follow others, and rows of bits.
-- For the functions that read and set a bit, and for their callers.
use mathlib.Core.Path.{◌≡◌, ap, ◌∙◌}
use mathlib.Core.Bool.{false}
use mathlib.Core.List.{List}
use Prim.Native.Nat.{ℕ, ◌+◌, ◌*◌, ◌/◌, ◌%◌, ◌^◌, ◌<◌, ◌≤◌}
use native.Mathlib.Nat.{zero-div}
use native.Mathlib.Omega.{arith}
use lib.Dec.{eqb}
use lib.ListN.{length, get_or, set, get_or-eq_default}
use lib.Seq.{set_out}
use borrow.Author.Tests.{eqb-true}
use Rattle.std.specs.Int.Bits.{bit_or, bit_and, or_add_and}
use Rattle.std.proofs.lemmas.Nat.Bits.{and_pow}
use Rattle.std.proofs.lemmas.Nat.{pow_below}
use Rattle.paper.proofs.Tests.{split, eqb_ne}
use Rattle.stream.specs.Bits.{lit, light, bit_at, with_bit}

-- the power that the code makes by a shift
shifted : (k : ℕ) → k < 8 → 1 * 2 ^ k % 256 ≡ 2 ^ k
shifted k h = omega (arith, pow_below k 8 h)

-- a byte with that bit set: the sum, unless it is set already
or_light : (x k : ℕ) → k < 8 → bit_or x (1 * 2 ^ k % 256) ≡ light x k
unfolding light lit
or_light x k h =
    let s = or_add_and x (2 ^ k) in
    let a = and_pow x k in
    rw (shifted k h)
    (split (eqb (x / 2 ^ k % 2) 1)
    (λ q.
    let e : x / 2 ^ k % 2 ≡ 1 = eqb-true (x / 2 ^ k % 2) 1 q in
    let b : bit_and x (2 ^ k) ≡ 1 * 2 ^ k = a ∙ ap (λ (n : ℕ). n * 2 ^ k) e in
    rw q (omega arith))
    (λ q.
    let n : x / 2 ^ k % 2 ≡ 1 → ⊥ = eqb_ne q in
    let e : x / 2 ^ k % 2 ≡ 0 = omega arith in
    let b : bit_and x (2 ^ k) ≡ 0 * 2 ^ k = a ∙ ap (λ (n : ℕ). n * 2 ^ k) e in
    rw q (omega arith)))

-- ---- what the code does
module _ (l : List ℕ) (at j : ℕ) where
  pub bit_off : length l ≤ at + j / 8 → bit_at l at j ≡ false
  unfolding bit_at lit
  bit_off h = rw (get_or-eq_default l 0 h, zero-div)

  pub with_off : length l ≤ at + j / 8 → with_bit l at j ≡ l
  unfolding with_bit
  with_off h = set_out l (at + j / 8) _ h

  pub with_on : set l (at + j / 8) (bit_or (get_or l (at + j / 8) 0) (1 * 2 ^ (j % 8) % 256)) ≡ with_bit l at j
  unfolding with_bit
  with_on = rw (or_light (get_or l (at + j / 8) 0) (j % 8) (omega arith))
