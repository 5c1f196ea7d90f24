-- The laws of a write: nothing, a part of the buffer, two writes that are one, and what a buffer that the bytes fit into says.
-- For every crate that writes.
use mathlib.Core.Path.{◌≡◌, refl, sym, ap, ◌∙◌}
use mathlib.Core.List.{List, [], ◌∷◌, ◌++◌}
use Prim.Native.Nat.{ℕ, ◌+◌, ◌<◌, ◌≤◌}
use native.Mathlib.Nat.{add-zero}
use native.Mathlib.Omega.{arith}
use lib.ListN.{length, length-append}
use lib.Seq.{paste}
use borrow.Rule.Slice.PartMut.{put_mid}
use Rattle.std.proofs.lemmas.Slice.{put_mid-paste}
use Rattle.std.proofs.lemmas.List.Edits.{paste_all}
use Rattle.paper.specs.Answer.{laid}
use Rattle.paper.specs.Records.{u16, u32, framed}
use Rattle.stream.specs.Wrote.{Wrote}
use Rattle.stream.proofs.Laid.{laid_none, length_laid, laid_append}

pasted : (l : List ℕ) (at : ℕ) (b : List ℕ) → paste l at b (length b) ≡ laid l at b
unfolding laid
pasted l at b = paste_all l at b (length b) refl

-- nothing is written
pub wrote_none : (l : List ℕ) (at : ℕ) → Wrote l l at at []
wrote_none l at = record { place = sym (add-zero at); len = refl; bytes = λ h. sym (laid_none l at) }

-- one write and then another are one write of both
pub wrote_then : {l m n : List ℕ} {at p q : ℕ} {a b : List ℕ} → Wrote l m at p a → Wrote m n p q b → Wrote l n at q (a ++ b)
wrote_then {l} {m} {n} {at} {p} {q} {a} {b} x y =
    record {
      place = omega (arith, x.place, y.place, length-append a b);
      len = y.len ∙ x.len;
      bytes = λ h.
          y.bytes (omega (arith, x.len))
          ∙ rw (x.bytes (omega (arith, y.place)), x.place) (laid_append l at a b (omega (arith, x.place, y.place)));
    }

-- bytes that do not fit are left out
pub wrote_skip : (l : List ℕ) (at r : ℕ) (b : List ℕ) → r ≡ at + length b → length l < r → Wrote l l at r b
wrote_skip l at r b e h = record { place = e; len = refl; bytes = λ k. absurd (omega arith) }

-- the place after the bytes, and the bytes, said otherwise
pub wrote_to : {l m : List ℕ} {at p q : ℕ} {b : List ℕ} → Wrote l m at p b → q ≡ p → Wrote l m at q b
wrote_to w e = rw e w

pub wrote_as : {l m : List ℕ} {at r : ℕ} {a b : List ℕ} → Wrote l m at r a → b ≡ a → Wrote l m at r b
wrote_as w e = rw e w

-- the bytes b, of which the first i are copied, once i is all of them
pub wrote_paste : (l : List ℕ) (at i : ℕ) (m b : List ℕ) → m ≡ paste l at b i → i ≡ length b → at + length b ≤ length l → Wrote l m at (at + length b) b
wrote_paste l at i m b p e h =
    let q : m ≡ laid l at b = p ∙ ap (paste l at b) e ∙ pasted l at b in
    record { place = refl; len = ap length q ∙ length_laid l at b h; bytes = λ k. q }

-- a part of the buffer that is made to hold the bytes b, as by `fill`
pub wrote_part : (l : List ℕ) (at k : ℕ) (m b : List ℕ) → m ≡ b → k ≡ length b → at + length b ≤ length l → Wrote l (put_mid at k l m) at (at + length b) b
wrote_part l at k m b e n h =
    wrote_paste l at (length b) (put_mid at k l m) b (put_mid-paste at k l m b (length b) e (sym n) refl) refl h

-- a record: its length, and then its kind and its payload
pub wrote_framed : {l m o : List ℕ} {at p r n : ℕ} (k : ℕ) (b : List ℕ) → Wrote l m at p (u32 n) → Wrote m o p r (u16 k ++ b) → n ≡ 2 + length b
    → Wrote l o at r (framed k b)
unfolding framed
wrote_framed k b x y e = wrote_then (wrote_as x (ap u32 (sym e))) y

-- what a caller gets: a buffer that all the bytes fit into, and a part of no bytes that only measures
pub wrote_fits : {l m : List ℕ} {r : ℕ} {b : List ℕ} → Wrote l m 0 r b → length b ≤ length l → m ≡ laid l 0 b
wrote_fits w h = w.bytes (omega (arith, w.place))

pub wrote_size : {l m : List ℕ} {r : ℕ} {b : List ℕ} → Wrote l m 0 r b → r ≡ length b
wrote_size w = omega (arith, w.place)

pub none_before : (l : List ℕ) (out : List ℕ) → length l ≡ 0 → l ++ out ≡ out
none_before [] out e = refl
none_before (x ∷ l) out e = absurd (omega arith)
