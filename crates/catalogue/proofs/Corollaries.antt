-- The corollaries, proved: each promise says that a run ends as the definitions do.
-- Assumes nothing.
use mathlib.Core.Path.{◌≡◌, refl, sym, ap, ◌∙◌}
use mathlib.Core.List.{List, [], ◌∷◌, map}
use Prim.Native.Nat.{ℕ, ◌+◌}
use lib.ListN.{length, take, drop}
use lib.Seq.{take_at}
use Rattle.paper.specs.Reader.{given}
use Rattle.paper.specs.Answer.{Answer, Streams, number, frames_used, measure, outcome, answer_of, answer, laid, frames_of, diags_of, frames_exit, diags_exit}
use Rattle.paper.specs.declared.Setting.{Setting}
use Rattle.paper.specs.declared.Setting.TheVariants.{Short, Full}
use Rattle.paper.proofs.Alls.{All, all_none, all_more}
use Rattle.paper.proofs.Table.{lent, Case, ◌gives◌, expected, operation, computed_as}
use Rattle.paper.proofs.Bench as bench
use Rattle.paper.proofs.Slips as slips
use Rattle.paper.proofs.Readings as readings
use Rattle.paper.proofs.Measures as measures
use Rattle.paper.proofs.Shorts as shorts
use Rattle.theorems.specs.Groups.{blanked}
use Rattle.theorems.specs.Unique.{Allowed}
use Rattle.theorems.proofs.Unique.{unique_measure, unique}
use Rattle.theorems.proofs.Measured.{measured_fits}
use Rattle.theorems.proofs.Demand3.{demand3}
use Rattle.theorems.proofs.Later.{later}
use Rattle.catalogue.specs.Promise.{Writes}
use Rattle.catalogue.specs.Corollaries.{ended, OneMeasure, OneResult, OneFound, WritesAsMeasured, Holds, TablesHold, HoldsMeasure, MeasureTablesHold, GroupTakenOut, LaterUndisturbed}

-- ---- one result
pub one_measure : OneMeasure
one_measure c t w w₁ w₂ r s a b =
    unique_measure c t w (record { measured = r; work = w₁ }) (record { measured = s; work = w₂ })
    (record { measures = a.measured; work_holds = a.work })
    (record { measures = b.measured; work_holds = b.work })

allowed : {c : Setting} {t w w' f f' d d' : List ℕ} {r : Answer} → Writes c t w w' f f' d d' r → Allowed c t w f d (ended r w' f' d')
allowed x = record { answers = x.answer; frames_hold = x.frames; diags_hold = x.diags; work_holds = x.work }

pub one_result : OneResult
one_result c t w f d w₁ f₁ d₁ w₂ f₂ d₂ r s a b = unique c t w f d (ended r w₁ f₁ d₁) (ended s w₂ f₂ d₂) (allowed a) (allowed b)

pub one_found : OneFound
one_found f l r s a b = a ∙ sym b

-- ---- the writer does as was measured
pub writes_as_measured : WritesAsMeasured
writes_as_measured c t v v' w w' f f' d d' m r a b e =
    let z = measured_fits c t (length w) (length f) (length d) in
    let i : measure c t (length w) ≡ m = ap (measure c t) e ∙ sym a.measured in
    record {
      done = λ k x y. b.answer ∙ z.done (i ∙ k) x y;
      refused = λ k. b.answer ∙ z.refused (i ∙ k);
    }

-- ---- the tables
case_holds : (c : Setting) (x : Case) → computed_as c x ≡ expected x → Holds c x
unfolding operation
case_holds c (lent t w f d gives x) e w' f' d' r y = rw (y.answer, y.frames, y.diags, y.work) e

pub tables_hold : TablesHold
tables_hold c [] e = all_none
tables_hold c (x ∷ l) e =
    let a : computed_as c x ≡ expected x = cc in
    let b : map (computed_as c) l ≡ map expected l = cc in
    all_more (case_holds c x a) (tables_hold c l b)

pub bench_holds : All (Holds Full) bench.cases
bench_holds = tables_hold Full bench.cases bench.bench

pub slips_hold : All (Holds Full) slips.cases
slips_hold = tables_hold Full slips.cases slips.slips

pub readings_hold : All (Holds Full) readings.cases
readings_hold = tables_hold Full readings.cases readings.readings

pub shorts_hold : All (Holds Short) shorts.cases
shorts_hold = tables_hold Short shorts.cases shorts.shorts

measure_holds : (c : Setting) (x : measures.Case) → measures.computed c x ≡ measures.expected x → HoldsMeasure c x
unfolding measures.measurement
measure_holds c (measures.measured_in t w x) e w' m y = rw (y.measured, y.work) e

pub measure_tables_hold : MeasureTablesHold
measure_tables_hold c [] e = all_none
measure_tables_hold c (x ∷ l) e =
    let a : measures.computed c x ≡ measures.expected x = cc in
    let b : map (measures.computed c) l ≡ map measures.expected l = cc in
    all_more (measure_holds c x a) (measure_tables_hold c l b)

pub measures_hold : All (HoldsMeasure Full) measures.cases
measures_hold = measure_tables_hold Full measures.cases measures.measures

pub short_measures_hold : All (HoldsMeasure Short) measures.short_cases
short_measures_hold = measure_tables_hold Short measures.short_cases measures.short_measures

-- ---- demand 3
pub group_taken_out : GroupTakenOut
unfolding answer frames_exit diags_exit
group_taken_out c t w f d w₁ f₁ d₁ w₂ f₂ d₂ r s p q a b n g h =
    let x = demand3 c t w f d p q (ap number (sym a.answer) ∙ n) g h in
    record {
      streams = x.streams;
      was = a.answer ∙ ap (answer_of t) x.were;
      frames_were = a.frames ∙ ap (λ o. frames_of o f) x.were;
      diags_were = a.diags ∙ ap (λ o. diags_of o d) x.were;
      is = b.answer ∙ ap (answer_of (blanked t p q)) x.are;
      frames_are = b.frames ∙ x.frames_held;
      diags_are = b.diags ∙ x.diags_held;
    }

-- ---- A13
-- what a run that is done has used of the frame buffer is the frame stream
used_frames : {c : Setting} {t w w' f f' d d' : List ℕ} {r : Answer} (x : Streams) → Writes c t w w' f f' d d' r
    → outcome c t (length w) (length f) (length d) ≡ given x → take (frames_used r) f' ≡ x.frames
unfolding answer frames_exit laid
used_frames {f = f} x a e =
    rw (a.answer, a.frames, e) (take_at x.frames (drop (0 + length x.frames) f) (length x.frames) refl)

pub later_undisturbed : LaterUndisturbed
later_undisturbed c t u w w₁ f f₁ d d₁ v v₁ g g₁ e e₁ r s a b h q =
    let x = later c t u (length w) (length f) (length d) (length v) (length g) (length e) h q in
    rw (used_frames x.first a x.first_are, used_frames x.second b x.second_are) x.frames
