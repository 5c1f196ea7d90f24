-- Addresses as numbers: they go up with the offsets of the segments joined, and stay below none.
-- A segment is at most as long as the buffer, so it ends before the next begins.
use mathlib.Core.Path.{◌≡◌, refl, sym, ap, ◌∙◌}
use mathlib.Core.Bool.{true, false}
use mathlib.Core.List.{List, [], ◌∷◌, ◌++◌}
use Prim.Native.Nat.{ℕ, suc, ◌+◌, ◌-◌, ◌*◌, ◌<◌, ◌≤◌}
use native.Mathlib.Omega.{arith}
use lib.Dec.{eqb, leb, ltb}
use lib.ListN.{length, length-append}
use lib.Pow.{high, low}
use borrow.Author.Tests.{lt-ltb, le-ltb, le-leb, lt-leb, eqb-true, ltb-true, ltb-false}
use Rattle.paper.specs.Segments.{base, segment_of, offset_of}
use Rattle.paper.proofs.Tests.{split, eqb_ne}
use Rattle.paper.proofs.Alls.{All, all_none, all_more}
use Rattle.theorems.specs.Moved.{Rises}
use Rattle.theorems.specs.Joined.{joined, address_in, Ordered, Addressed}

abbrev pub Small : List ℕ → Type 0
Small s = length s ≤ 16777216

pub by_leb : {P : Type 0} (a b : ℕ) → (a ≤ b → leb a b ≡ true → P) → (b < a → leb a b ≡ false → P) → P
by_leb a b f g =
    split (ltb b a)
    (λ e. let h : b < a = ltb-true b a e in g h (lt-leb a b h))
    (λ e. let h : a ≤ b = ltb-false b a e in f h (le-leb a b h))

-- ---- in a segment, and behind it
pub address_here : (s : List ℕ) (l : List (List ℕ)) (k o : ℕ) → o ≤ length s → address_in (s ∷ l) k o ≡ base k + o
unfolding address_in
address_here s l k o h = rw (le-leb o (length s) h)

pub address_behind : (s : List ℕ) (l : List (List ℕ)) (k o : ℕ) → address_in (s ∷ l) k (suc (length s) + o) ≡ address_in l (suc k) o
unfolding address_in
address_behind s l k o =
    let q : (suc (length s) + o) - suc (length s) ≡ o = omega arith in
    rw (lt-leb (suc (length s) + o) (length s) (omega arith), q)

later_address : (s : List ℕ) (l : List (List ℕ)) (k o : ℕ) → length s < o → address_in (s ∷ l) k o ≡ address_in l (suc k) (o - suc (length s))
unfolding address_in
later_address s l k o h = rw (lt-leb o (length s) h)

-- ---- they rise
from_base : (l : List (List ℕ)) (k o : ℕ) → base k ≤ address_in l k o
unfolding address_in
from_base [] k o = omega arith
from_base (s ∷ l) k o =
    by_leb o (length s)
    (λ h e. rw e (omega arith))
    (λ h e. rw e (omega (arith, from_base l (suc k) (o - suc (length s)))))

pub address_rises : {l : List (List ℕ)} → All Small l → (k a b : ℕ) → a < b → address_in l k a < address_in l k b
unfolding address_in
address_rises all_none k a b h = omega arith
address_rises (all_more {x = s} {l = l} m c) k a b h =
    by_leb b (length s)
    (λ i e. rw (e, le-leb a (length s) (omega arith)) (omega arith))
    (λ i e. by_leb a (length s)
    (λ j g. rw (e, g) (omega (arith, from_base l (suc k) (b - suc (length s)))))
    (λ j g. rw (e, g) (address_rises c (suc k) (a - suc (length s)) (b - suc (length s)) (omega arith))))

-- ---- below the segment after the last
pub address_below : {l : List (List ℕ)} → All Small l → (k a : ℕ) → a < length (joined l) → address_in l k a < base (k + length l)
unfolding joined
address_below all_none k a h = absurd (omega arith)
address_below (all_more {x = s} m all_none) k a h = rw (address_here s [] k a (omega arith)) (omega arith)
address_below (all_more {x = s} m (all_more {x = r} {l = l} p c)) k a h =
    by_leb a (length s)
    (λ i e. rw (address_here s (r ∷ l) k a i) (omega arith))
    (λ i e.
    let n : length (s ++ (32 ∷ joined (r ∷ l))) ≡ length s + suc (length (joined (r ∷ l))) = length-append s (32 ∷ joined (r ∷ l)) in
    rw (later_address s (r ∷ l) k a i)
    (omega (arith, address_below (all_more {x = r} {l = l} p c) (suc k) (a - suc (length s)) (omega (arith, n)))))

address_first : (l : List (List ℕ)) → address_in l 0 0 ≡ 0
unfolding address_in
address_first [] = refl
address_first (s ∷ l) = address_here s l 0 0 (omega arith)

pub addresses_rise : {l : List (List ℕ)} → length l ≤ 64 → All Small l → Rises (address_in l 0) (length (joined l))
addresses_rise {l} h m =
    record {
      first = address_first l;
      rising = address_rises m 0;
      below = λ a k. omega (arith, address_below m 0 a k);
    }

-- ---- by segment, then offset
pub ordered : Ordered
ordered k j o p h i =
    split (ltb k j)
    (λ e. rw e (lt-ltb (base k + o) (base j + p) (omega (arith, ltb-true k j e))))
    (λ e. split (eqb k j)
    (λ g. let q : k ≡ j = eqb-true k j g in
    rw (e, g)
    (split (ltb o p)
    (λ z. lt-ltb (base k + o) (base j + p) (omega (arith, ltb-true o p z)) ∙ sym z)
    (λ z. le-ltb (base k + o) (base j + p) (omega (arith, ltb-false o p z)) ∙ sym z)))
    (λ g. let q : (k ≡ j) → ⊥ = eqb_ne g in
    rw (e, g) (le-ltb (base k + o) (base j + p) (omega (arith, ltb-false k j e)))))

pub addressed : Addressed
addressed k o h =
    let q : base k + o ≡ k * 33554432 + o = omega arith in
    (ap segment_of q ∙ high k 25 h, ap offset_of q ∙ low k 25 h)
