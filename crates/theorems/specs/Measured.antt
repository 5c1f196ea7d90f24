-- The measure and the writer: what the one answers says what the other does, for any text and buffers of any lengths.
-- `c` is the setting, `w` the length of the work area, `f` and `d` are those of the output buffers.
use Rattle.std.specs.Prelude.{Ok, Err, ◌≡◌, List, ℕ, ◌<◌, ◌≤◌, ltb}
use Rattle.paper.specs.Base.{choose}
use Rattle.paper.specs.Answer.{Answer, not_done, number, measure, answer}
use Rattle.paper.specs.declared.Setting.{Setting}
use Rattle.paper.specs.declared.Refusal.TheVariants.{ShortFrames, ShortDiags}
use Rattle.paper.specs.declared.Refused.{Refused}
use Rattle.paper.specs.declared.Lengths.{Lengths}

-- the writer's answer by the measure's
abbrev pub written_as : Answer → ℕ → ℕ → Answer
written_as (Err r) f d = Err r
written_as (Ok s) f d =
    choose (ltb f s.frames) (not_done (ShortFrames s.frames) 0)
    (choose (ltb d s.diags) (not_done (ShortDiags s.diags) 0) (Ok s))

abbrev pub AsMeasured : Type 0
AsMeasured = (c : Setting) (t : List ℕ) (w f d : ℕ) → answer c t w f d ≡ written_as (measure c t w) f d

-- Where the measure gives lengths and the buffers have them, the writer is done with exactly these; a buffer that is shorter is
-- refused with them; a refusal of the measure is the writer's, with its line.
pub record Fitting (c : Setting) (t : List ℕ) (w f d : ℕ) : Type 0 where
  pub done : {s : Lengths} → measure c t w ≡ Ok s → s.frames ≤ f → s.diags ≤ d → answer c t w f d ≡ Ok s
  pub short_frames : {s : Lengths} → measure c t w ≡ Ok s → f < s.frames → answer c t w f d ≡ not_done (ShortFrames s.frames) 0
  pub short_diags : {s : Lengths} → measure c t w ≡ Ok s → s.frames ≤ f → d < s.diags → answer c t w f d ≡ not_done (ShortDiags s.diags) 0
  pub refused : {r : Refused} → measure c t w ≡ Err r → answer c t w f d ≡ Err r

abbrev pub MeasuredFits : Type 0
MeasuredFits = (c : Setting) (t : List ℕ) (w f d : ℕ) → Fitting c t w f d

-- the measure answers 0 to 7
abbrev pub NeverShort : Type 0
NeverShort = (c : Setting) (t : List ℕ) (w : ℕ) → number (measure c t w) ≤ 7
