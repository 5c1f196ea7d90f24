-- Bytes that a cut takes, whatever stands behind them: one part, one after the other, so many times.
-- For the records that are written.
use mathlib.Core.Path.{◌≡◌, refl, ap, ◌∙◌}
use mathlib.Core.List.{List, [], ◌∷◌, ◌++◌, append_assoc}
use Prim.Native.Nat.{ℕ, ◌+◌, ◌*◌, ◌<◌}
use native.Mathlib.Omega.{arith}
use lib.ListN.{length, length-append}
use lib.Seq.{take-append_seam, drop-append_seam}
use borrow.Author.Tests.{le-ltb}
use Rattle.paper.specs.Base.{gather}
use Rattle.paper.specs.Records.{le, u16, u32, string}
use Rattle.paper.specs.Lookup.{u16_at, u32_at}
use Rattle.paper.specs.Layout.{Cut, cut, part, then, whole, skipped, times, counted, a_string}
use Rattle.paper.proofs.Alls.{All, all_none, all_more}
use Rattle.stream.proofs.Records.{length_u32}

pub record Taken (f : List ℕ → Cut) (a b : List ℕ) : Type 0 where
  pub parts : List (List ℕ)
  pub is : f (a ++ b) ≡ cut parts b

abbrev pub Takes : (List ℕ → Cut) → List ℕ → Type 0
Takes f a = (b : List ℕ) → Taken f a b

-- ---- numbers at the front
pub u32_read : (n : ℕ) (x : List ℕ) → n < 4294967296 → u32_at (u32 n ++ x) 0 ≡ n
unfolding u32 le u32_at u16_at
u32_read n x h = omega arith

pub u16_read : (n : ℕ) (x : List ℕ) → n < 65536 → u16_at (u16 n ++ x) 0 ≡ n
unfolding u16 le u16_at
u16_read n x h = omega arith

-- ---- one part
pub takes_part : (n : ℕ) (a : List ℕ) → length a ≡ n → Takes (part n) a
unfolding part
takes_part n a e b =
    record {
      parts = a ∷ [];
      is = rw (← e, le-ltb (length (a ++ b)) (length a) (omega (arith, length-append a b)), take-append_seam a b, drop-append_seam a b);
    }

pub takes_counted : (k n : ℕ) (p : List ℕ) → n < 4294967296 → length p ≡ k * n → Takes (counted k) (u32 n ++ p)
unfolding counted
takes_counted k n p h e b =
    let a = u32 n ++ p in
    let s : length a ≡ 4 + k * n = length-append (u32 n) p ∙ rw (length_u32 n, e) in
    let u : u32_at (a ++ b) 0 ≡ n = ap (λ x. u32_at x 0) (append_assoc (u32 n) p b) ∙ u32_read n (p ++ b) h in
    let t = takes_part (4 + k * n) a s b in
    record { parts = t.parts; is = rw (le-ltb (length (a ++ b)) 4 (omega (arith, length-append a b)), u) t.is }

pub takes_string : (s : List ℕ) → length s < 4294967296 → Takes a_string (string s)
unfolding string
takes_string s h = takes_counted 1 (length s) s h (omega arith)

-- ---- one after the other
pub takes_then : (f g : List ℕ → Cut) (a c : List ℕ) → Takes f a → Takes g c → Takes (λ l. then (f l) g) (a ++ c)
takes_then f g a c x y b =
    let s = x (c ++ b) in
    let t = y b in
    record { parts = s.parts ++ t.parts; is = rw (append_assoc a c b, s.is, t.is) }

pub takes_whole : (f : List ℕ → Cut) (a : List ℕ) → Takes f a → Takes (λ l. whole (f l)) a
takes_whole f a x b = record { parts = gather (λ p. p) (x b).parts ∷ []; is = rw (x b).is }

pub takes_skipped : (f : List ℕ → Cut) (a : List ℕ) → Takes f a → Takes (λ l. skipped (f l)) a
takes_skipped f a x b = record { parts = []; is = rw (x b).is }

pub takes_as : {f : List ℕ → Cut} {a c : List ℕ} → c ≡ a → Takes f a → Takes f c
takes_as e x = rw e x

-- ---- so many times the same
pub takes_times : {A : Type 0} (f : List ℕ → Cut) (g : A → List ℕ) {l : List A} → All (λ x. Takes f (g x)) l → Takes (times (length l) f) (gather g l)
unfolding times gather
takes_times f g all_none b = record { parts = []; is = refl }
takes_times f g (all_more {x = x} {l = l} h a) b =
    let s = h (gather g l ++ b) in
    let t = takes_times f g a b in
    record { parts = s.parts ++ t.parts; is = rw (append_assoc (g x) (gather g l) b, s.is, t.is) }
