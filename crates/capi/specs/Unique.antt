-- Uniqueness: any two results that the promises to other languages allow are equal.
-- A result is the number that comes back, with what is told beside it and every lent buffer at exit.
use Rattle.std.specs.Prelude.{◌≡◌, List, ℕ}
use Rattle.capi.specs.Promise.{Gauged, Written, Looked, Changed}

-- ---- the measure, under the setting of number u, for the text t with work area w at entry
pub record Gauge : Type 0 where
  pub number : ℕ
  pub answer : List ℕ
  pub work : List ℕ

abbrev pub UniqueMeasure : Type 0
UniqueMeasure =
    (u : ℕ) (t w : List ℕ) (r s : Gauge)
    → Gauged u t w r.work r.answer r.number
    → Gauged u t w s.work s.answer s.number
    → r ≡ s

-- ---- the writer, for the text t with work area w, frame buffer f and diagnostics buffer d at entry
pub record Told : Type 0 where
  pub number : ℕ
  pub answer : List ℕ
  pub frames : List ℕ
  pub diags : List ℕ
  pub work : List ℕ

abbrev pub Allowed : ℕ → List ℕ → List ℕ → List ℕ → List ℕ → Told → Type 0
Allowed u t w f d r = Written u t w r.work f r.frames d r.diags r.answer r.number

abbrev pub Unique : Type 0
Unique = (u : ℕ) (t w f d : List ℕ) (r s : Told) → Allowed u t w f d r → Allowed u t w f d s → r ≡ s

-- ---- look-up of the label l in the frame buffer f
pub record Shown : Type 0 where
  pub number : ℕ
  pub place : ℕ

abbrev pub UniqueLook : Type 0
UniqueLook = (f l : List ℕ) (r s : Shown) → Looked f l r.place r.number → Looked f l s.place s.number → r ≡ s

-- ---- the converter, for the stream s with buffer l at entry
pub record Change : Type 0 where
  pub number : ℕ
  pub answer : List ℕ
  pub buffer : List ℕ

abbrev pub UniqueChange : Type 0
UniqueChange =
    (s l : List ℕ) (r q : Change)
    → Changed s l r.buffer r.answer r.number
    → Changed s l q.buffer q.answer q.number
    → r ≡ q
