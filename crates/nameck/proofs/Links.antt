-- The links of the names: where a search comes to; names stay linked under every write that keeps the links; and a name
-- put at the empty link where its search ends is linked, and so are all before it.
use mathlib.Core.Path.{◌≡◌, refl, sym, ap, ◌∙◌}
use mathlib.Core.Logic.{◌≢◌}
use mathlib.Core.Bool.{Bool, true, false}
use mathlib.Core.List.{List}
use Prim.Native.Nat.{ℕ, zero, suc, ◌+◌, ◌-◌, ◌*◌, ◌/◌, ◌<◌, ◌≤◌}
use native.Mathlib.Nat.{not-suc-le-zero}
use native.Mathlib.Omega.{arith}
use lib.Dec.{eqb}
use borrow.Author.Tests.{eqb-true}
use Rattle.paper.specs.Base.{choose}
use Rattle.paper.proofs.Tests.{split, eqb_ne}
use Rattle.area.specs.Cells.{name_cell, bucket_cell, symbol_cell, word}
use Rattle.nameck.specs.Links.{hash, head_by, fork, link, way, Linked, Ends}
use Rattle.nameck.proofs.Hash.{hash_small, bucket_few}

-- the search does not depend on a word that is empty before
module _ (w v : List ℕ) (n : ℕ) (s : List ℕ) (c : ℕ) (same : (i : ℕ) → i ≢ c → word v i ≡ word w i) (blank : word w c ≡ 0) where
  pub way_kept : (d : ℕ) → ((e : ℕ) → e < d → word w (way w n s e) ≢ 0) → way v n s d ≡ way w n s d
  unfolding way
  way_kept zero h = refl
  way_kept (suc d) h =
      let y : way v n s d ≡ way w n s d = way_kept d (λ e k. h e (omega arith)) in
      let z : way w n s d ≢ c = λ q. h d (omega arith) (ap (word w) q ∙ blank) in
      rw (y, same (way w n s d) z)

-- ---- links lie apart
apart : (n k a : ℕ) (r u : Bool) → k < a → a < n → link n k r ≡ link n a u → ⊥
unfolding link
apart n k a true true h l q = omega (arith, q)
apart n k a true false h l q = omega (arith, q)
apart n k a false true h l q = omega (arith, q)
apart n k a false false h l q = omega (arith, q)

from_head : (n b a : ℕ) (u : Bool) → b < n → a < n → bucket_cell n b ≡ link n a u → ⊥
unfolding link
from_head n b a true h l q = omega (arith, q)
from_head n b a false h l q = omega (arith, q)

-- the cell that a search comes to is a head, or the link of one of the names
pub data Place (n m c : ℕ) : Type 0 where
  at_head : (b : ℕ) → b < n → c ≡ bucket_cell n b → Place n m c
  at_link : (a : ℕ) (r : Bool) → a < m → c ≡ link n a r → Place n m c

-- ---- the search starts at a head
pub at_bucket : (n m : ℕ) (s : List ℕ) → 0 < n → Place n m (head_by n (hash s))
unfolding head_by
at_bucket n m s h =
    at_head (hash s * (n / 4 + 1) / 4294967296) (omega (arith, bucket_few n (hash s) (hash_small 0 s (omega arith)))) refl

module _ {w : List ℕ} {n m : ℕ} {x : ℕ → List ℕ} (h : Linked w n m x) (some : 0 < n) (s : List ℕ) where
  -- what stands in a place leads to one of the names
  pub leads : {c : ℕ} → Place n m c → word w c ≤ m
  leads (at_head b k q) = rw q (h.heads b k)
  leads (at_link a r k q) = rw q (h.links a r k)

  pub place_of : (d : ℕ) → ((e : ℕ) → e < d → word w (way w n s e) ≢ 0) → Place n m (way w n s d)
  unfolding way
  place_of zero k = at_bucket n m s some
  place_of (suc d) k =
      let p : word w (way w n s d) ≤ m = leads (place_of d (λ e l. k e (omega arith))) in
      let z : word w (way w n s d) ≢ 0 = k d (omega arith) in
      at_link (word w (way w n s d) - 1) (fork s d) (omega (arith, z)) refl

-- ---- where all heads are empty, no name is linked
pub link_in : (n a : ℕ) (r : Bool) → a < n → (4 * n ≤ link n a r) × (link n a r < 15 * n)
unfolding link
link_in n a true h = (omega arith, omega arith)
link_in n a false h = (omega arith, omega arith)

pub none_linked : {w : List ℕ} {n : ℕ} {x : ℕ → List ℕ} → ((b : ℕ) → b < n → word w (bucket_cell n b) ≡ 0) → Linked w n 0 x
none_linked z =
    record {
      depth = λ a. 0;
      comes = λ a k. absurd (not-suc-le-zero k);
      passes = λ a d k. absurd (not-suc-le-zero k);
      heads = λ b k. omega (arith, z b k);
      links = λ a r k. absurd (not-suc-le-zero k);
      later = λ a r k. absurd (not-suc-le-zero k);
    }

-- ---- names stay linked where the heads, the links and the names are kept
pub link_kept : (w v : List ℕ) (n a : ℕ) (r : Bool) → word v (name_cell n a 2) ≡ word w (name_cell n a 2) → word v (symbol_cell n a 2) ≡ word w (symbol_cell n a 2) → word v (link n a r) ≡ word w (link n a r)
unfolding link
link_kept w v n a true p q = q
link_kept w v n a false p q = p

module _ {w : List ℕ} (v : List ℕ) {n m : ℕ} {x : ℕ → List ℕ} (h : Linked w n m x) (some : 0 < n) (few : m ≤ n)
    (buckets : (b : ℕ) → b < n → word v (bucket_cell n b) ≡ word w (bucket_cell n b))
    (rows : (a : ℕ) (r : Bool) → a < m → word v (link n a r) ≡ word w (link n a r)) where
  place_kept : {c : ℕ} → Place n m c → word v c ≡ word w c
  place_kept (at_head b k q) = rw q (buckets b k)
  place_kept (at_link a r k q) = rw q (rows a r k)

  pub way_same : (s : List ℕ) (d : ℕ) → ((e : ℕ) → e < d → word w (way w n s e) ≢ 0) → way v n s d ≡ way w n s d
  unfolding way
  way_same s zero k = refl
  way_same s (suc d) k =
      let z : way v n s d ≡ way w n s d = way_same s d (λ e l. k e (omega arith)) in
      rw (z, place_kept (place_of h some s d (λ e l. k e (omega arith))))

  word_kept : (s : List ℕ) (d : ℕ) → ((e : ℕ) → e < d → word w (way w n s e) ≢ 0) → word v (way v n s d) ≡ word w (way w n s d)
  word_kept s d k = rw (way_same s d k) (place_kept (place_of h some s d k))

  pub ends_kept : {s : List ℕ} {d : ℕ} → Ends w n s d → Ends v n s d
  ends_kept {s} {d} z =
      record {
        empty = word_kept s d z.passed ∙ z.empty;
        passed = λ e l q. z.passed e l (sym (word_kept s e (λ f g. z.passed f (omega arith))) ∙ q);
      }

  pub linked_kept : {y : ℕ → List ℕ} → ((a : ℕ) → a < m → y a ≡ x a) → Linked v n m y
  linked_kept names =
      record {
        depth = h.depth;
        comes = λ a k. rw (names a k) (word_kept (x a) (h.depth a) (λ e l. h.passes a e k l) ∙ h.comes a k);
        passes = λ a d k l.
            rw (names a k) (λ q. h.passes a d k l (sym (word_kept (x a) d (λ e g. h.passes a e k (omega arith))) ∙ q));
        heads = λ b k. rw (buckets b k) (h.heads b k);
        links = λ a r k. rw (rows a r k) (h.links a r k);
        later = λ a r k. rw (rows a r k) (h.later a r k);
      }

-- ---- which words a place is not
module _ {n m c : ℕ} (few : m ≤ n) where
  pub place_low : Place n m c → 4 * n ≤ c
  unfolding link
  place_low (at_head b k q) = omega arith
  place_low (at_link a true k q) = omega arith
  place_low (at_link a false k q) = omega arith

  pub place_high : Place n m c → c < 15 * n
  unfolding link
  place_high (at_head b k q) = omega arith
  place_high (at_link a true k q) = omega arith
  place_high (at_link a false k q) = omega arith

  pub place_name : Place n m c → (i j : ℕ) → i < n → j < 2 → name_cell n i j ≢ c
  unfolding link
  place_name (at_head b k q) i j g l e = omega (arith, e)
  place_name (at_link a true k q) i j g l e = omega (arith, e)
  place_name (at_link a false k q) i j g l e = omega (arith, e)

  pub place_symbol : Place n m c → (i j : ℕ) → i < n → j < 7 → j ≢ 2 → symbol_cell n i j ≢ c
  unfolding link
  place_symbol (at_head b k q) i j g l d e = omega (arith, e)
  place_symbol (at_link a true k q) i j g l d e = d (omega (arith, e))
  place_symbol (at_link a false k q) i j g l d e = omega (arith, e)

pub head_in : (n : ℕ) (s : List ℕ) → 0 < n → head_by n (hash s) < 15 * n
head_in n s h = place_high {m = 0} (omega arith) (at_bucket n 0 s h)

-- a place is no link of the next row
not_later : {n m c : ℕ} → Place n m c → (r : Bool) → m < n → link n m r ≢ c
not_later {n} {m} {c} (at_head b k q) r f e = from_head n b m r k f (sym q ∙ sym e)
not_later {n} {m} {c} (at_link i u k q) r f e = apart n i m u r k f (sym q ∙ sym e)

-- ---- the name in row m, from which no link leads, is put at the empty link where the search for it ends
module _ (w v : List ℕ) (n m : ℕ) (x : ℕ → List ℕ) (h : Linked w n m x) (few : m < n) (free : (r : Bool) → word w (link n m r) ≡ 0) (d : ℕ) (y : Ends w n (x m) d)
    (same : (i : ℕ) → i ≢ way w n (x m) d → word v i ≡ word w i) (put : word v (way w n (x m) d) ≡ m + 1) where
  place : Place n m (way w n (x m) d)
  place = place_of h (omega arith) (x m) d y.passed

  -- a word that is not empty is as before
  full : (i : ℕ) → word w i ≢ 0 → word v i ≡ word w i
  full i k = same i (λ q. k (ap (word w) q ∙ y.empty))

  -- a word is as before, or it leads to the new name
  either : (i : ℕ) (P : ℕ → Type 0) → P (word w i) → P (m + 1) → P (word v i)
  either i P p q =
      split (eqb i (way w n (x m) d))
      (λ e. let z : word v i ≡ m + 1 = ap (word v) (eqb-true i (way w n (x m) d) e) ∙ put in rw z q)
      (λ e. rw (same i (eqb_ne e)) p)

  abbrev new_depth : ℕ → ℕ
  new_depth a = choose (eqb a m) d (h.depth a)

  old_way : (a e : ℕ) → a < m → e ≤ h.depth a → way v n (x a) e ≡ way w n (x a) e
  old_way a e k l = way_kept w v n (x a) (way w n (x m) d) same y.empty e (λ f g. h.passes a f k (omega arith))

  new_way : (e : ℕ) → e ≤ d → way v n (x m) e ≡ way w n (x m) e
  new_way e l = way_kept w v n (x m) (way w n (x m) d) same y.empty e (λ f g. y.passed f (omega arith))

  old_comes : (a : ℕ) → a < m → word v (way v n (x a) (h.depth a)) ≡ a + 1
  old_comes a k =
      let c = h.comes a k in
      rw (old_way a (h.depth a) k (omega arith)) (full (way w n (x a) (h.depth a)) (λ q. omega (arith, c, q)) ∙ c)

  old_passes : (a e : ℕ) → a < m → e < h.depth a → word v (way v n (x a) e) ≢ 0
  old_passes a e k l =
      let c = h.passes a e k l in
      rw (old_way a e k (omega arith)) (λ q. c (sym (full (way w n (x a) e) c) ∙ q))

  new_passes : (e : ℕ) → e < d → word v (way v n (x m) e) ≢ 0
  new_passes e l =
      let c = y.passed e l in
      rw (new_way e (omega arith)) (λ q. c (sym (full (way w n (x m) e) c) ∙ q))

  comes_at : (a : ℕ) → a < m + 1 → word v (way v n (x a) (new_depth a)) ≡ a + 1
  comes_at a k =
      split (eqb a m)
      (λ e. let q : a ≡ m = eqb-true a m e in rw (e, q) (rw (new_way d (omega arith)) put))
      (λ e. let q : a ≢ m = eqb_ne e in rw e (old_comes a (omega (arith, q))))

  passes_at : (a e : ℕ) → a < m + 1 → e < new_depth a → word v (way v n (x a) e) ≢ 0
  passes_at a e k l =
      split (eqb a m)
      (λ f. let q : a ≡ m = eqb-true a m f in let g : e < d = rw f at l in rw q (new_passes e g))
      (λ f. let q : a ≢ m = eqb_ne f in let g : e < h.depth a = rw f at l in old_passes a e (omega (arith, q)) g)

  -- the links of row m are still empty
  own : (r : Bool) → word v (link n m r) ≡ 0
  own r = same (link n m r) (not_later place r few) ∙ free r

  links_at : (a : ℕ) (r : Bool) → a < m + 1 → word v (link n a r) ≤ m + 1
  links_at a r k =
      split (eqb a m)
      (λ e. let q : a ≡ m = eqb-true a m e in rw (q, own r) (omega arith))
      (λ e. let q : a ≢ m = eqb_ne e in
      either (link n a r) (λ z. z ≤ m + 1) (omega (arith, h.links a r (omega (arith, q)))) (omega arith))

  later_at : (a : ℕ) (r : Bool) → a < m + 1 → word v (link n a r) ≢ 0 → a + 1 < word v (link n a r)
  later_at a r k =
      split (eqb a m)
      (λ e. let q : a ≡ m = eqb-true a m e in λ z. absurd (z (ap (λ i. word v (link n i r)) q ∙ own r)))
      (λ e. let q : a ≢ m = eqb_ne e in
      either (link n a r) (λ z. z ≢ 0 → a + 1 < z) (h.later a r (omega (arith, q))) (λ z. omega (arith, q)))

  pub linked_more : Linked v n (m + 1) x
  linked_more =
      record {
        depth = new_depth;
        comes = comes_at;
        passes = passes_at;
        heads = λ b k. either (bucket_cell n b) (λ z. z ≤ m + 1) (omega (arith, h.heads b k)) (omega arith);
        links = links_at;
        later = later_at;
      }
