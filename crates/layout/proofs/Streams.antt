-- The records of a stream by their places: the walk that looks for the first one that does not fit.
-- For the converter's first pass.
use mathlib.Core.Path.{◌≡◌, refl, sym, ap, ◌∙◌}
use mathlib.Core.Bool.{true}
use mathlib.Core.List.{List, [], ◌∷◌, ◌++◌}
use mathlib.Core.Option.{none, some}
use Prim.Native.Nat.{ℕ, zero, suc, ◌+◌, ◌-◌, ◌<◌, ◌≤◌}
use native.Mathlib.Nat.{add-zero, not-suc-le-zero}
use native.Mathlib.Omega.{arith}
use lib.Dec.{eqb, ltb}
use lib.ListN.{length, take, drop, length-take, length-drop, drop_of_length-le, take-append-drop}
use lib.Seq.{drop-nil, drop-drop}
use borrow.Author.Tests.{ltb-false, eqb-true}
use Rattle.paper.specs.Base.{gather}
use Rattle.paper.specs.Lookup.{u32_at}
use Rattle.paper.specs.Layout.{record_shape, fits, records_after, stream_records}
use Rattle.paper.specs.Convert.{first_unfit}
use Rattle.paper.proofs.Tests.{split, clash}
use Rattle.stream.proofs.Search.{u32_drop}
use Rattle.layout.specs.Cuts.{record_from, fitting}
use Rattle.layout.specs.Renewal.{unfit_of, unfit}
use Rattle.std.specs.Prelude.{Some, None}
use Rattle.layout.proofs.Fit.{fitting_stands, fitting_not, from_u32}

-- ---- the records from a place on
unfoldable pub records_at : List ℕ → ℕ → List (List ℕ)
records_at s at = records_after (drop at s) 0

pub records_skip : (l : List ℕ) (k : ℕ) → records_after l k ≡ records_after (drop k l) 0
unfolding records_after
records_skip [] k = rw (drop-nil {A = ℕ} k)
records_skip (b ∷ l) zero = refl
records_skip (b ∷ l) (suc k) = records_skip l k

pub records_cons : (l : List ℕ) → 0 < length l → records_after l 0 ≡ take (4 + u32_at l 0) l ∷ records_after (drop 1 l) (3 + u32_at l 0)
unfolding records_after
records_cons [] h = absurd (not-suc-le-zero h)
records_cons (b ∷ l) h = refl

pub records_step : (s : List ℕ) (at : ℕ) → at < length s → records_at s at ≡ record_from s at ∷ records_at s ((at + 4) + u32_at s at)
unfolding records_at record_from
records_step s at h =
    let u = u32_at s at in
    let j : (at + 1) + (3 + u) ≡ (at + 4) + u = omega arith in
    let d : drop (3 + u) (drop 1 (drop at s)) ≡ drop ((at + 4) + u) s =
    ap (drop (3 + u)) (drop-drop 1 at s) ∙ drop-drop (3 + u) (at + 1) s ∙ ap (λ (m : ℕ). drop m s) j in
    records_cons (drop at s) (simp length-drop (omega arith))
    ∙ rw (u32_drop s at 0, add-zero at, records_skip (drop 1 (drop at s)) (3 + u), d)

pub records_end : (s : List ℕ) (at : ℕ) → length s ≤ at → records_at s at ≡ []
unfolding records_at records_after
records_end s at h = rw (drop_of_length-le s h)

pub records_start : (s : List ℕ) → records_at s 0 ≡ stream_records s
unfolding records_at stream_records
records_start s = refl

-- all the records are all of the stream
pub records_whole : (l : List ℕ) (k : ℕ) → gather (λ x. x) (records_after l k) ≡ drop k l
unfolding records_after gather
records_whole [] k = sym (drop-nil {A = ℕ} k)
records_whole (b ∷ l) zero =
    let u = u32_at (b ∷ l) 0 in
    let e : 4 + u ≡ suc (3 + u) = omega arith in
    rw e (ap (λ x. b ∷ x) (ap (λ x. take (3 + u) l ++ x) (records_whole l (3 + u)) ∙ take-append-drop (3 + u) l))
records_whole (b ∷ l) (suc k) = records_whole l k

-- ---- the length of a record that fits
pub record Sized (r : List ℕ) : Type 0 where
  pub room : 6 ≤ length r
  pub size : length r ≡ 4 + u32_at r 0

pub fits_sized : (r : List ℕ) → fits r ≡ true → Sized r
unfolding fits record_shape
fits_sized r e =
    split (ltb (length r) 6)
    (λ t. absurd (clash (sym (rw t at e))))
    (λ t.
    split (eqb (length r) (4 + u32_at r 0))
    (λ d. record { room = ltb-false (length r) 6 t; size = eqb-true (length r) (4 + u32_at r 0) d })
    (λ d. absurd (clash (sym (rw (t, d) at e)))))

pub record Stood (s : List ℕ) (at : ℕ) : Type 0 where
  pub room : 2 ≤ u32_at s at
  pub within : (at + 4) + u32_at s at ≤ length s
  pub size : length (record_from s at) ≡ 4 + u32_at s at

from_few : (s : List ℕ) (at : ℕ) → length (record_from s at) ≤ length s - at
unfolding record_from
from_few s at = simp (length-take, length-drop) (omega arith)

pub stood : (s : List ℕ) (at : ℕ) → fits (record_from s at) ≡ true → Stood s at
stood s at e =
    let z = fits_sized (record_from s at) e in
    let u : u32_at (record_from s at) 0 ≡ u32_at s at = from_u32 s at in
    let m : length (record_from s at) ≤ length s - at = from_few s at in
    record { room = omega (arith, z.room, z.size); within = omega (arith, z.room, z.size); size = omega (arith, z.size) }

-- ---- the walk has come to a place
pub record Looked (s : List ℕ) (at : ℕ) : Type 0 where
  pub within : at ≤ length s
  pub same : first_unfit (records_at s at) at ≡ first_unfit (stream_records s) 0

pub looked_start : (s : List ℕ) → Looked s 0
looked_start s = record { within = omega arith; same = rw (records_start s) }

pub unfit_step : (s : List ℕ) (at : ℕ) → at < length s → fits (record_from s at) ≡ true
    → first_unfit (records_at s at) at ≡ first_unfit (records_at s ((at + 4) + u32_at s at)) ((at + 4) + u32_at s at)
unfolding first_unfit
unfit_step s at h e =
    let q : at + length (record_from s at) ≡ (at + 4) + u32_at s at = omega (arith, (stood s at e).size) in
    rw (records_step s at h, e, q)

pub looked_next : {s : List ℕ} {at q : ℕ} → Looked s at → at < length s → Some q ≡ fitting s at → Looked s q
looked_next {s} {at} {q} w h e =
    let f = fitting_stands s at e in
    rw f.after
    (record { within = (stood s at f.fit).within; same = sym (unfit_step s at h f.fit) ∙ w.same })

pub looked_bad : {s : List ℕ} {at : ℕ} → Looked s at → at < length s → None ≡ fitting s at → Some at ≡ unfit s
unfolding unfit first_unfit
looked_bad {s} {at} w h e =
    let z : first_unfit (records_at s at) at ≡ some at = rw (records_step s at h, fitting_not s at e) in
    ap unfit_of (sym z ∙ w.same)

pub looked_end : {s : List ℕ} {at : ℕ} → Looked s at → length s ≤ at → None ≡ unfit s
unfolding unfit first_unfit
looked_end {s} {at} w h =
    let z : first_unfit (records_at s at) at ≡ none = rw (records_end s at h) in
    ap unfit_of (sym z ∙ w.same)
