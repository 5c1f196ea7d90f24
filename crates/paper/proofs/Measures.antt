-- The measure: a table of the smallest texts, proved by one statement, and number 7, which no short text has.
-- No output buffer is lent, so nothing can be too short.
use mathlib.Core.Path.{◌≡◌, refl}
use mathlib.Core.List.{List, [], ◌∷◌, map}
use mathlib.Core.Option.{some}
use Prim.Native.Nat.{ℕ}
use lib.ListN.{length}
use Rattle.paper.specs.Base.{codes, find}
use Rattle.paper.specs.Reader.{refused, reading}
use Rattle.paper.specs.Frames.{Frame}
use Rattle.paper.specs.Give.{Given}
use Rattle.paper.specs.Answer.{crowded, frame_at, frames_in, number, place, frames_used, diags_used, count, measured, measuring, measure, work_exit}
use Rattle.paper.specs.declared.Setting.{Setting}
use Rattle.paper.specs.declared.Setting.TheVariants.{Short, Full}
use Rattle.paper.specs.declared.Refusal.{Refusal}
use Rattle.paper.specs.declared.Refusal.TheVariants.{ManyVariables}
use Rattle.paper.proofs.Table.{operation, old, zeros}

-- number, place, bytes of frames and of diagnostics, number of frames; and the work area at exit
pub data Sizes : Type 0 where
  sizes : ℕ → ℕ → ℕ → ℕ → ℕ → List ℕ → Sizes

-- a text and the work area at entry, and what is to come of it
pub data Case : Type 0 where
  measured_in : List ℕ → List ℕ → Sizes → Case

abbrev pub expected : Case → Sizes
expected (measured_in t w x) = x

unfoldable pub measurement : Setting → List ℕ → List ℕ → Sizes
unfolding operation measured measuring measure
measurement c t w =
    let m = measure c t (length w) in
    sizes (number m) (place m) (frames_used m) (diags_used m) (count m) (work_exit w)

abbrev pub computed : Setting → Case → Sizes
computed c (measured_in t w x) = measurement c t w

abbrev pub cases : List Case
cases =
    -- the empty text
    measured_in [] (old 16) (sizes 0 0 0 0 0 (zeros 16)) ∷
    -- the whole case: a frame is any record of the frame stream, that of a `$f` too
    measured_in (codes "$c ( ) wff $. $v x $. wx $f wff x $. ax $a wff ( x ) $.") (old 336) (sizes 0 0 116 0 2 (zeros 336)) ∷
    -- one word less
    measured_in (codes "$c ( ) wff $. $v x $. wx $f wff x $. ax $a wff ( x ) $.") (old 335) (sizes 2 336 0 0 0 (zeros 335)) ∷
    -- a diagnostic is no frame
    measured_in (codes "$c x $. $v x $.") (old 144) (sizes 0 0 0 18 0 (zeros 144)) ∷
    -- nor is a `$e`; the rejected `$a` has none
    measured_in (codes "$c c $. e $e c $. a $a x $. b $a c $.") (old 256) (sizes 0 0 71 18 1 (zeros 256)) ∷
    -- a `$p` has one
    measured_in (codes "$c c $. p $p c $= ? $.") (old 160) (sizes 0 0 48 0 1 (zeros 160)) ∷
    -- numbers 3 to 6
    measured_in (128 ∷ []) (old 32) (sizes 3 0 0 0 0 (zeros 32)) ∷
    measured_in (codes "$(") (old 32) (sizes 4 0 0 0 0 (zeros 32)) ∷
    measured_in (codes "$}") (old 32) (sizes 5 0 0 0 0 (zeros 32)) ∷
    measured_in (codes "${") (old 32) (sizes 6 2 0 0 0 (zeros 32)) ∷
    []

pub measures : map (computed Full) cases ≡ map expected cases
unfolding measurement
measures = refl

-- the measure takes the setting: an optional variable is a name and a row of the full frame
abbrev pub short_cases : List Case
short_cases =
    measured_in (codes "$c c $. $v x y $. $d x y $. a $a c $.") (old 256) (sizes 0 0 48 0 1 (zeros 256)) ∷
    measured_in (codes "$c ( ) wff $. $v x $. wx $f wff x $. ax $a wff ( x ) $.") (old 336) (sizes 0 0 116 0 2 (zeros 336)) ∷
    []

pub short_measures : map (computed Short) short_cases ≡ map expected short_cases
unfolding measurement
short_measures = refl

-- ---- each of 1 to 6 comes before 7
pub unread : (c : Setting) (t : List ℕ) (w : ℕ) (r : Refusal) → reading t w ≡ refused r → measuring c t w ≡ refused r
unfolding measuring
unread c t w r e = rw e

-- the first frame with over 4,095 variables
pub number_7 : (c : Setting) (l : List Given) (x : Frame) → find crowded (frames_in l) ≡ some x → measured c l ≡ refused (ManyVariables (frame_at x))
unfolding measured
number_7 c l x e = rw e
