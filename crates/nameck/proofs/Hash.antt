-- The hash of a name: made byte by byte, below 2^32, and so its bucket lies in the column.
-- Assumes nothing.
use mathlib.Core.Path.{◌≡◌, refl}
use mathlib.Core.Bool.{true, false}
use mathlib.Core.List.{List, [], ◌∷◌}
use Prim.Native.Nat.{ℕ, suc, ◌+◌, ◌*◌, ◌/◌, ◌%◌, ◌^◌, ◌<◌, ◌≤◌}
use native.Mathlib.Nat.{mul-le-mul_right, div-le_self}
use native.Mathlib.Numerals.{add-one}
use native.Mathlib.Omega.{arith}
use lib.Dec.{eqb}
use lib.ListN.{length, get_or, drop, drop_of_length-le, get_or-eq_default}
use lib.Seq.{drop-cons}
use Rattle.paper.specs.Bytes.{white}
use Rattle.token.specs.Words.{word}
use Rattle.nameck.specs.Links.{hash_more, hash_on, hash}
use Rattle.nameck.specs.declared.naming.Hashed.{Hashed}
use Rattle.nameck.specs.Naming.{HashedToken}

-- ---- from a place on
unfoldable pub hash_from : ℕ → List ℕ → ℕ → ℕ
hash_from h s k = hash_on h (drop k s)

pub hash_whole : (s : List ℕ) → hash_from 0 s 0 ≡ hash s
unfolding hash_from
hash_whole s = refl

module _ (h : ℕ) (s : List ℕ) (k : ℕ) where
  pub hash_step : k < length s → hash_from (hash_more h (get_or s k 0)) s (k + 1) ≡ hash_from h s k
  unfolding hash_from hash_on
  hash_step l = rw (add-one, drop-cons s k 0)

  pub hash_end : length s ≤ k → hash_from h s k ≡ h
  unfolding hash_from hash_on
  hash_end l = rw (drop_of_length-le s l)

-- ---- its size
pub hash_small : (h : ℕ) (s : List ℕ) → h < 4294967296 → hash_on h s < 4294967296
unfolding hash_on
hash_small h [] k = k
hash_small h (b ∷ s) k = hash_small (hash_more h b) s (omega arith)

module _ (n h : ℕ) (l : h < 4294967296) where
  product : h * (n / 4 + 1) ≤ 4294967295 * (n / 4 + 1)
  product = mul-le-mul_right (n / 4 + 1) (omega arith)

  pub product_fits : n ≤ 16777217 → h * (n / 4 + 1) < 2 ^ 64
  product_fits k = omega (arith, product)

  part : (p k : ℕ) → p ≤ 4294967295 * k → 0 < k → p / 4294967296 < k
  part p k f g = omega arith

  pub bucket_few : h * (n / 4 + 1) / 4294967296 < n / 4 + 1
  bucket_few = part (h * (n / 4 + 1)) (n / 4 + 1) product (omega arith)

-- ---- past its end a name has the bits 0
pub bit_past : (s : List ℕ) (i p : ℕ) → length s ≤ i → eqb (get_or s i 0 / p % 2) 1 ≡ false
bit_past s i p h =
    let e : get_or s i 0 / p ≡ 0 = omega (arith, get_or-eq_default s 0 h, div-le_self (get_or s i 0) p) in
    rw e

-- ---- the hash of the token at a place, made on the way to its end: h is that of its bytes before i
pub record Hashing (q : List ℕ) (at h i : ℕ) : Type 0 where
  pub stop : i + length (word (drop i q)) ≡ at + length (word (drop at q))
  pub on : hash_on h (word (drop i q)) ≡ hash (word (drop at q))
  pub small : h < 4294967296

pub hashing_begin : (q : List ℕ) (at : ℕ) → Hashing q at 0 at
hashing_begin q at = record { stop = refl; on = refl; small = omega arith }

module _ {q : List ℕ} {at i : ℕ} {r : Hashed} (x : (r.stop ≡ i) × Hashing q at r.hash i) where
  pub hashing_step : i < length q → white (get_or q i 0) ≡ false → Hashing q at (hash_more r.hash (get_or q i 0)) (i + 1)
  unfolding word hash_on
  hashing_step l e =
      let s : i + suc (length (word (drop (suc i) q))) ≡ at + length (word (drop at q)) = rw (drop-cons q i 0, e) at x.1.stop in
      let o : hash_on (hash_more r.hash (get_or q i 0)) (word (drop (suc i) q)) ≡ hash (word (drop at q)) = rw (drop-cons q i 0, e) at x.1.on in
      record { stop = rw add-one (omega (arith, s)); on = rw add-one o; small = omega arith }

  stopped : word (drop i q) ≡ [] → HashedToken q at r
  unfolding hash_on
  stopped e =
      let s : i + 0 ≡ at + length (word (drop at q)) = rw e at x.1.stop in
      record { stop = omega (arith, s, x.0); hash = rw e at x.1.on }

  pub hashing_white : i < length q → white (get_or q i 0) ≡ true → HashedToken q at r
  unfolding word
  hashing_white l e = stopped (rw (drop-cons q i 0, e))

  pub hashing_end : length q ≤ i → HashedToken q at r
  unfolding word
  hashing_end l = stopped (rw (drop_of_length-le q l))
