-- The tokens of segments: those of the segments joined, each at the address there; and between which addresses they stand.
-- The tokens of some bytes from another offset on are the same, moved.
use mathlib.Core.Path.{◌≡◌, refl, sym, ap, ◌∙◌}
use mathlib.Core.List.{List, [], ◌∷◌, ◌++◌, map, append-nil}
use Prim.Native.Nat.{ℕ, suc, ◌+◌, ◌<◌, ◌≤◌}
use native.Mathlib.Nat.{add-zero}
use native.Mathlib.Omega.{arith}
use lib.ListN.{length}
use Rattle.paper.specs.Bytes.{white}
use Rattle.paper.specs.Tokens.{Token, put, run, toks}
use Rattle.paper.specs.Segments.{base, segment_tokens}
use Rattle.paper.proofs.Tests.{split}
use Rattle.paper.proofs.Alls.{All, all_none, all_more, all_append, all_map}
use Rattle.paper.proofs.Gather.{map_append}
use Rattle.theorems.specs.Moved.{moved_token}
use Rattle.theorems.specs.Joined.{joined, address_in}
use Rattle.theorems.proofs.Tokens.{white_32, toks_white, toks_within}
use Rattle.theorems.proofs.Mapped.{map_mapped}
use Rattle.theorems.proofs.Addresses.{Small, address_here, address_behind}

-- ---- the tokens of some bytes from another offset on
module _ (f : ℕ → ℕ) where
  put_moved : {o c : ℕ} (h : List ℕ) (l : List Token) → f o ≡ c → put c h (map (moved_token f) l) ≡ map (moved_token f) (put o h l)
  put_moved [] l e = refl
  put_moved (b ∷ h) l e = rw e

  run_moved : (l : List ℕ) (o c : ℕ) → ((i : ℕ) → i ≤ length l → f (o + i) ≡ c + i)
      → ((run l c).head ≡ (run l o).head) × ((run l c).rest ≡ map (moved_token f) (run l o).rest)
  unfolding run
  run_moved [] o c h = (refl, refl)
  run_moved (b ∷ l) o c h =
      let g : (i : ℕ) → i ≤ length l → f (suc o + i) ≡ suc c + i =
      λ i k. let q : suc o + i ≡ o + suc i = omega arith in
      let p : c + suc i ≡ suc c + i = omega arith in
      ap f q ∙ (h (suc i) (omega arith) ∙ p) in
      let r = run_moved l (suc o) (suc c) g in
      let z : f (suc o) ≡ suc c =
      let q : suc o ≡ o + 1 = omega arith in
      let p : c + 1 ≡ suc c = omega arith in
      ap f q ∙ (h 1 (omega arith) ∙ p) in
      split (white b)
      (λ w. (rw w, rw (w, r.0, r.1) (put_moved (run l (suc o)).head (run l (suc o)).rest z)))
      (λ w. (rw (w, r.0), rw (w, r.1)))

  toks_moved : (l : List ℕ) (o c : ℕ) → ((i : ℕ) → i ≤ length l → f (o + i) ≡ c + i) → toks l c ≡ map (moved_token f) (toks l o)
  unfolding toks
  toks_moved l o c h =
      let r = run_moved l o c h in
      let z : f o ≡ c = ap f (sym (add-zero o)) ∙ (h 0 (omega arith) ∙ add-zero c) in
      rw (r.0, r.1) (put_moved (run l o).head (run l o).rest z)

-- the tokens of the segments are those of the segments joined, each at the address there
module _ (s : List ℕ) (l : List (List ℕ)) (k : ℕ) where
  toks_here : toks s (base k) ≡ map (moved_token (address_in (s ∷ l) k)) (toks s 0)
  toks_here =
      toks_moved (address_in (s ∷ l) k) s 0 (base k)
      (λ i h. let z : 0 + i ≡ i = omega arith in ap (address_in (s ∷ l) k) z ∙ address_here s l k i h)

  toks_behind : (t : List ℕ) → map (moved_token (address_in (s ∷ l) k)) (toks t (suc (0 + length s))) ≡ map (moved_token (address_in l (suc k))) (toks t 0)
  toks_behind t =
      let f = address_in (s ∷ l) k in
      let shift : ℕ → ℕ = λ a. suc (0 + length s) + a in
      ap (map (moved_token f)) (toks_moved shift t 0 (suc (0 + length s)) (λ i h. omega arith))
      ∙ map_mapped (moved_token f) (moved_token shift) (moved_token (address_in l (suc k)))
      (λ x. let z : suc (0 + length s) + x.at ≡ suc (length s) + x.at = omega arith in
      ap (λ (a : ℕ). record { at = a; bytes = x.bytes }) (ap f z ∙ address_behind s l k x.at)) (toks t 0)

pub tokens_joined : (s : List (List ℕ)) (k : ℕ) → segment_tokens s k ≡ map (moved_token (address_in s k)) (toks (joined s) 0)
unfolding segment_tokens joined toks run
tokens_joined [] k = refl
tokens_joined (s ∷ []) k = append-nil (toks s (base k)) ∙ toks_here s [] k
tokens_joined (s ∷ r ∷ l) k =
    let f = address_in (s ∷ r ∷ l) k in
    let t = joined (r ∷ l) in
    ap (λ (x : List Token). x ++ segment_tokens (r ∷ l) (suc k)) (toks_here s (r ∷ l) k)
    ∙ (ap (λ (x : List Token). map (moved_token f) (toks s 0) ++ x) (tokens_joined (r ∷ l) (suc k) ∙ sym (toks_behind s (r ∷ l) k t))
    ∙ (sym (map_append (moved_token f) (toks s 0) (toks t (suc (0 + length s))))
    ∙ ap (map (moved_token f)) (sym (toks_white s 32 t 0 white_32))))

-- ---- where they stand: from the first segment's base on, and below the base of the segment after the last
pub segments_above : (s : List (List ℕ)) (k : ℕ) → All (λ t. base k ≤ t.at) (segment_tokens s k)
unfolding segment_tokens
segments_above [] k = all_none
segments_above (s ∷ l) k =
    all_append (all_map (λ t h. h.0) (toks_within s (base k))) (all_map (λ t h. omega arith) (segments_above l (suc k)))

pub segments_below : {s : List (List ℕ)} → All Small s → (k : ℕ) → All (λ t. t.at < base (k + length s)) (segment_tokens s k)
unfolding segment_tokens
segments_below all_none k = all_none
segments_below (all_more {x = s} {l = l} m a) k =
    all_append (all_map (λ t h. omega (arith, h.1)) (toks_within s (base k))) (all_map (λ t h. omega arith) (segments_below a (suc k)))
