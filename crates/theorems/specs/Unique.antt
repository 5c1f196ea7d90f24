-- Uniqueness: any two results that the definitions allow are equal, for measure, writer and look-up.
-- What they allow is a function of the inputs: the answer, and every lent buffer at exit.
use Rattle.std.specs.Prelude.{◌≡◌, List, ℕ, length}
use Rattle.paper.specs.Answer.{Answer, measure, answer, frames_exit, diags_exit, work_exit}
use Rattle.paper.specs.Lookup.{Found, look_up}
use Rattle.paper.specs.declared.Setting.{Setting}

-- ---- the measure
pub record Measurement : Type 0 where
  pub measured : Answer
  pub work : List ℕ

-- allowed under the setting c for the text t with work area w at entry
pub record AllowedMeasure (c : Setting) (t w : List ℕ) (r : Measurement) : Type 0 where
  pub measures : r.measured ≡ measure c t (length w)
  pub work_holds : r.work ≡ work_exit w

abbrev pub UniqueMeasure : Type 0
UniqueMeasure = (c : Setting) (t w : List ℕ) (r s : Measurement) → AllowedMeasure c t w r → AllowedMeasure c t w s → r ≡ s

-- ---- the writer
pub record Result : Type 0 where
  pub answer : Answer
  pub frames : List ℕ
  pub diags : List ℕ
  pub work : List ℕ

-- allowed under the setting c for the text t with work area w, frame buffer f and diagnostics buffer d at entry
pub record Allowed (c : Setting) (t w f d : List ℕ) (r : Result) : Type 0 where
  pub answers : r.answer ≡ answer c t (length w) (length f) (length d)
  pub frames_hold : r.frames ≡ frames_exit c t w f d
  pub diags_hold : r.diags ≡ diags_exit c t w f d
  pub work_holds : r.work ≡ work_exit w

abbrev pub Unique : Type 0
Unique = (c : Setting) (t w f d : List ℕ) (r s : Result) → Allowed c t w f d r → Allowed c t w f d s → r ≡ s

-- ---- look-up of the label n in the frame buffer f
pub record LookedUp : Type 0 where
  pub found : Found
  pub frames : List ℕ

pub record AllowedLook (f n : List ℕ) (r : LookedUp) : Type 0 where
  pub finds : r.found ≡ look_up f n
  pub frames_hold : r.frames ≡ f

abbrev pub UniqueLook : Type 0
UniqueLook = (f n : List ℕ) (r s : LookedUp) → AllowedLook f n r → AllowedLook f n s → r ≡ s
