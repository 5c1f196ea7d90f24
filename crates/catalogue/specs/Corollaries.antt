-- What follows from the promises: one result for each input, a writer that does as was measured, the tables of `paper`,
-- demand 3 and A13, of the operations themselves.
-- `c` is the setting; `w`, `f` and `d` are work area, frame and diagnostics buffer at entry, with a mark at exit.
use Rattle.std.specs.Prelude.{◌≡◌, Ok, Err, List, map, ℕ, ◌≤◌, length, take}
use Rattle.paper.specs.Answer.{Answer, done, Streams, number, place, frames_used, diags_used, count, laid}
use Rattle.paper.specs.declared.Setting.{Setting}
use Rattle.paper.specs.declared.Refused.{Refused}
use Rattle.paper.specs.declared.Lengths.{Lengths}
use Rattle.paper.specs.Lookup.{Found}
use Rattle.paper.proofs.Alls.{All}
use Rattle.paper.proofs.Table.{lent, result, Case, ◌gives◌, expected, computed_as}
use Rattle.paper.proofs.Measures as measures
use Rattle.theorems.specs.Groups.{Group, statements, blanked, Apart}
use Rattle.theorems.specs.TakenOut.{taken_out, records_in}
use Rattle.theorems.specs.Unique as unique
use Rattle.theorems.specs.Later.{Initial, Followed, Quiet}
use Rattle.catalogue.specs.Promise.{Measures, Writes, Looks}

-- ---- two runs on the same inputs end alike
abbrev pub OneMeasure : Type 0
OneMeasure =
    (c : Setting) (t w w₁ w₂ : List ℕ) (r s : Answer)
    → Measures c t w w₁ r
    → Measures c t w w₂ s
    → ◌≡◌ {A = unique.Measurement} (record { measured = r; work = w₁ }) (record { measured = s; work = w₂ })

abbrev pub ended : Answer → List ℕ → List ℕ → List ℕ → unique.Result
ended r w f d = record { answer = r; frames = f; diags = d; work = w }

abbrev pub OneResult : Type 0
OneResult =
    (c : Setting) (t w f d w₁ f₁ d₁ w₂ f₂ d₂ : List ℕ) (r s : Answer)
    → Writes c t w w₁ f f₁ d d₁ r
    → Writes c t w w₂ f f₂ d d₂ s
    → ended r w₁ f₁ d₁ ≡ ended s w₂ f₂ d₂

abbrev pub OneFound : Type 0
OneFound = (f l : List ℕ) (r s : Found) → Looks f l r → Looks f l s → r ≡ s

-- ---- a run of the measure, and a run of the writer on the same text with a work area of the same length
pub record AsMeasured (f d : List ℕ) (m : Answer) (r : Answer) : Type 0 where
  pub done : {s : Lengths} → m ≡ Ok s → s.frames ≤ length f → s.diags ≤ length d → r ≡ Ok s
  pub refused : {x : Refused} → m ≡ Err x → r ≡ Err x

abbrev pub WritesAsMeasured : Type 0
WritesAsMeasured =
    (c : Setting) (t v v' w w' f f' d d' : List ℕ) (m : Answer) (r : Answer)
    → Measures c t v v' m
    → Writes c t w w' f f' d d' r
    → length w ≡ length v
    → AsMeasured f d m r

-- ---- a table that is proved of the definitions holds of every run on its texts and buffers
abbrev pub Runs : Setting → Case → List ℕ → List ℕ → List ℕ → Answer → Type 0
Runs c (lent t w f d gives x) w' f' d' r = Writes c t w w' f f' d d' r

abbrev pub Holds : Setting → Case → Type 0
Holds c x =
    (w' f' d' : List ℕ) (r : Answer) → Runs c x w' f' d' r
    → result (number r) (place r) (frames_used r) (diags_used r) f' d' w' ≡ expected x

abbrev pub TablesHold : Type 0
TablesHold = (c : Setting) (l : List Case) → map (computed_as c) l ≡ map expected l → All (Holds c) l

abbrev pub RunsMeasure : Setting → measures.Case → List ℕ → Answer → Type 0
RunsMeasure c (measures.measured_in t w x) w' m = Measures c t w w' m

abbrev pub HoldsMeasure : Setting → measures.Case → Type 0
HoldsMeasure c x =
    (w' : List ℕ) (m : Answer) → RunsMeasure c x w' m
    → measures.sizes (number m) (place m) (frames_used m) (diags_used m) (count m) w' ≡ measures.expected x

abbrev pub MeasureTablesHold : Type 0
MeasureTablesHold = (c : Setting) (l : List measures.Case) → map (measures.computed c) l ≡ map measures.expected l → All (HoldsMeasure c) l

-- ---- demand 3: two runs, on a text and on the text with a group blanked
pub record Without (f f₁ f₂ d d₁ d₂ : List ℕ) (p q : ℕ) (r s : Answer) : Type 0 where
  pub streams : Streams
  pub was : r ≡ done (length streams.frames) (length streams.diags) streams.count
  pub frames_were : f₁ ≡ laid f 0 streams.frames
  pub diags_were : d₁ ≡ laid d 0 streams.diags
  pub is : s ≡ done (length (taken_out p q streams.frames)) (length (taken_out p q streams.diags)) (records_in (taken_out p q streams.frames))
  pub frames_are : f₂ ≡ laid f 0 (taken_out p q streams.frames)
  pub diags_are : d₂ ≡ laid d 0 (taken_out p q streams.diags)

abbrev pub GroupTakenOut : Type 0
GroupTakenOut =
    (c : Setting) (t w f d w₁ f₁ d₁ w₂ f₂ d₂ : List ℕ) (r s : Answer) (p q : ℕ)
    → Writes c t w w₁ f f₁ d d₁ r
    → Writes c (blanked t p q) w w₂ f f₂ d d₂ s
    → number r ≡ 0
    → (g : Group t p q)
    → Apart (statements g) p q
    → Without f f₁ f₂ d d₁ d₂ p q r s

-- ---- A13: two runs, on a text and on the text followed by white space and more. What is used of the first frame buffer is an
-- initial part of what is used of the second.
abbrev pub LaterUndisturbed : Type 0
LaterUndisturbed =
    (c : Setting) (t u w w₁ f f₁ d d₁ v v₁ g g₁ e e₁ : List ℕ) (r s : Answer)
    → Writes c t w w₁ f f₁ d d₁ r
    → Writes c u v v₁ g g₁ e e₁ s
    → Followed c t u (length w) (length f) (length d) (length v) (length g) (length e)
    → Quiet t u
    → Initial (take (frames_used r) f₁) (take (frames_used s) g₁)
