-- Streams: the walk by length fields finds exactly the records, and each has its statement's offset after length and kind.
-- The lemmas S1 and S2 of the proof on paper.
use mathlib.Core.Path.{◌≡◌, refl, ap, ◌∙◌}
use mathlib.Core.Bool.{Bool, true, false}
use mathlib.Core.List.{List, [], ◌∷◌, ◌++◌}
use Prim.Native.Nat.{ℕ, suc, ◌+◌, ◌*◌, ◌/◌, ◌%◌, ◌<◌}
use native.Mathlib.Omega.{arith}
use lib.ListN.{length}
use Rattle.paper.specs.Base.{choose, not, within, keep, gather}
use Rattle.paper.specs.Records.{le, u16, u32, framed}
use Rattle.paper.specs.Lookup.{u16_at, u32_at}
use Rattle.paper.proofs.Tests.{split}
use Rattle.paper.proofs.Alls.{All, all_none, all_more}
use Rattle.theorems.specs.TakenOut.{walk, taken_out, records_from, records_in}

-- ---- four bytes and their number
u32_value : (n : ℕ) → n < 4294967296
    → (n % 256 + 256 * ((n / 256) % 256)) + 65536 * ((n / 256 / 256) % 256 + 256 * ((n / 256 / 256 / 256) % 256)) ≡ n
u32_value n h = omega arith

-- ---- the walk, by one record
module _ (p q : ℕ) where
  -- between records it does not matter whether the last one stayed
  walk_flag : (l : List ℕ) (a b : Bool) → walk p q l 0 a ≡ walk p q l 0 b
  unfolding walk
  walk_flag [] a b = refl
  walk_flag (c ∷ l) a b = refl

  -- the rest of the record in hand
  walk_over : (a b : List ℕ) (k : Bool) → walk p q (a ++ b) (length a) k ≡ choose k a [] ++ walk p q b 0 k
  unfolding walk
  walk_over [] b true = refl
  walk_over [] b false = refl
  walk_over (c ∷ a) b true = ap (λ (r : List ℕ). c ∷ r) (walk_over a b true)
  walk_over (c ∷ a) b false = walk_over a b false

  -- a whole record, of which c is the first byte
  walk_bytes : (c : ℕ) (a b : List ℕ) (f : Bool) (o : ℕ) → 3 + u32_at (c ∷ (a ++ b)) 0 ≡ length a
      → u32_at (c ∷ (a ++ b)) 6 ≡ o
      → walk p q (c ∷ (a ++ b)) 0 f ≡ choose (not (within p q o)) (c ∷ a) [] ++ walk p q b 0 true
  unfolding walk
  walk_bytes c a b f o e g =
      rw (e, g)
      (split (not (within p q o))
      (λ k. rw k (ap (λ (r : List ℕ). c ∷ r) (walk_over a b true)))
      (λ k. rw k (walk_over a b false ∙ walk_flag b false true)))

  walk_framed : (k o : ℕ) (r b : List ℕ) (f : Bool) → 6 + length r < 4294967296 → o < 4294967296
      → walk p q (framed k (u32 o ++ r) ++ b) 0 f ≡ choose (not (within p q o)) (framed k (u32 o ++ r)) [] ++ walk p q b 0 true
  unfolding framed u32 u16 le u32_at u16_at
  walk_framed k o r b f h g =
      let n = 2 + suc (suc (suc (suc (length r)))) in
      walk_bytes (n % 256)
      (n / 256 % 256 ∷ n / 256 / 256 % 256 ∷ n / 256 / 256 / 256 % 256 ∷ k % 256 ∷ k / 256 % 256 ∷ o % 256 ∷ o / 256 % 256 ∷ o / 256 / 256 % 256 ∷ o / 256 / 256 / 256 % 256 ∷ r)
      b f o
      (omega (arith, u32_value n (omega arith)))
      (u32_value o g)

-- ---- the count, by one record
records_over : (a b : List ℕ) → records_from (a ++ b) (length a) ≡ records_from b 0
unfolding records_from
records_over [] b = refl
records_over (c ∷ a) b = records_over a b

records_bytes : (c : ℕ) (a b : List ℕ) → 3 + u32_at (c ∷ (a ++ b)) 0 ≡ length a → records_from (c ∷ (a ++ b)) 0 ≡ suc (records_from b 0)
unfolding records_from
records_bytes c a b e = rw e (ap suc (records_over a b))

records_framed : (k : ℕ) (r b : List ℕ) → 2 + length r < 4294967296 → records_from (framed k r ++ b) 0 ≡ suc (records_from b 0)
unfolding framed u32 u16 le u32_at u16_at
records_framed k r b h =
    let n = 2 + length r in
    records_bytes (n % 256)
    (n / 256 % 256 ∷ n / 256 / 256 % 256 ∷ n / 256 / 256 / 256 % 256 ∷ k % 256 ∷ k / 256 % 256 ∷ r)
    b
    (omega (arith, u32_value n (omega arith)))

-- the four bytes after length and kind
pub offset_framed : (k o : ℕ) (r : List ℕ) → o < 4294967296 → u32_at (framed k (u32 o ++ r)) 6 ≡ o
unfolding framed u32 u16 le u32_at u16_at
offset_framed k o r g = u32_value o g

-- the bytes of a record: framed, with the offset o at the head of its payload, and short enough for its length field
pub record Sound (bytes : List ℕ) (o : ℕ) : Type 0 where
  pub kind : ℕ
  pub rest : List ℕ
  pub are : bytes ≡ framed kind (u32 o ++ rest)
  pub short : 6 + length rest < 4294967296
  pub low : o < 4294967296

sound_short : {c : List ℕ} {o : ℕ} (h : Sound c o) → 2 + length (u32 o ++ h.rest) < 4294967296
unfolding u32 le
sound_short h = omega (arith, h.short)

walk_sound : {c : List ℕ} {o : ℕ} (p q : ℕ) → Sound c o → (b : List ℕ) (f : Bool)
    → walk p q (c ++ b) 0 f ≡ choose (not (within p q o)) c [] ++ walk p q b 0 true
walk_sound {c} {o} p q h b f = rw h.are (walk_framed p q h.kind o h.rest b f h.short h.low)

-- ---- S2: the walk over any number of sound records
module _ {A : Type 0} (f : A → List ℕ) (at : A → ℕ) (p q : ℕ) where
  walk_gather : {l : List A} → All (λ x. Sound (f x) (at x)) l → (k : Bool)
      → walk p q (gather f l) 0 k ≡ gather f (keep (λ x. not (within p q (at x))) l)
  unfolding walk gather keep
  walk_gather all_none k = refl
  walk_gather (all_more {x = x} {l = l} h a) k =
      walk_sound p q h (gather f l) k
      ∙ rw (walk_gather a true) (split (not (within p q (at x))) (λ e. rw e) (λ e. rw e))

  pub taken_gather : {l : List A} → All (λ x. Sound (f x) (at x)) l
      → taken_out p q (gather f l) ≡ gather f (keep (λ x. not (within p q (at x))) l)
  unfolding taken_out
  taken_gather a = walk_gather a true

-- ---- as many records as there are
module _ {A : Type 0} (f : A → List ℕ) (at : A → ℕ) where
  records_gather : {l : List A} → All (λ x. Sound (f x) (at x)) l → records_from (gather f l) 0 ≡ length l
  unfolding gather records_from
  records_gather all_none = refl
  records_gather (all_more {l = l} h a) =
      ap (λ (c : List ℕ). records_from (c ++ gather f l) 0) h.are
      ∙ records_framed h.kind (u32 _ ++ h.rest) (gather f l) (sound_short h)
      ∙ ap suc (records_gather a)

  pub counted_gather : {l : List A} → All (λ x. Sound (f x) (at x)) l → records_in (gather f l) ≡ length l
  unfolding records_in
  counted_gather a = records_gather a
