-- What no text in a table can show: the order of the numbers where the text would be too long, for every text,
-- and the edge of *active*, since only a `$}` has the offset of a `$}`.
use mathlib.Core.Path.{◌≡◌, refl}
use mathlib.Core.Bool.{true, false}
use mathlib.Core.List.{List, [], ◌∷◌, map}
use mathlib.Core.Option.{none, some}
use Prim.Native.Nat.{ℕ}
use lib.Dec.{ltb}
use lib.ListN.{length, replicate}
use Rattle.paper.specs.Base.{keep, find}
use Rattle.paper.specs.Tokens.{bad_from}
use Rattle.paper.specs.Reader.{refused, given, words, reading}
use Rattle.paper.specs.State.{float, State, nothing, view}
use Rattle.paper.specs.Frames.{Frame, full}
use Rattle.paper.specs.Give.{Given}
use Rattle.paper.specs.Records.{frame_stream, diag_stream}
use Rattle.paper.specs.Answer.{crowded, frame_at, frames_in, streams, written, outcome}
use Rattle.paper.specs.declared.Setting.{Setting}
use Rattle.paper.specs.declared.Refusal.{Refusal}
use Rattle.paper.specs.declared.Refusal.TheVariants.{LongText, ShortWork, BadByte, ManyVariables, ShortFrames, ShortDiags}

-- ---- 1, then 2, then 3
pub number_1 : (t : List ℕ) (w : ℕ) → ltb 16777216 (length t) ≡ true → reading t w ≡ refused LongText
unfolding reading
number_1 t w a = rw a

pub number_2 : (t : List ℕ) (w : ℕ)
    → ltb 16777216 (length t) ≡ false → ltb w (words t) ≡ true → reading t w ≡ refused (ShortWork (words t))
unfolding reading
number_2 t w a b = rw (a, b)

pub number_3 : (t : List ℕ) (w o : ℕ)
    → ltb 16777216 (length t) ≡ false → ltb w (words t) ≡ false → bad_from t 0 ≡ some o
    → reading t w ≡ refused (BadByte o)
unfolding reading
number_3 t w o a b e = rw (a, b, e)

-- each of 1 to 6 comes before 7, 8 and 9
pub unread : (c : Setting) (t : List ℕ) (w f d : ℕ) (r : Refusal) → reading t w ≡ refused r → outcome c t w f d ≡ refused r
unfolding outcome
unread c t w f d r e = rw e

-- ---- 7, then 8, then 9, then 0, for whatever the statements give
pub number_7 : (c : Setting) (l : List Given) (f d : ℕ) (x : Frame)
    → find crowded (frames_in l) ≡ some x → written c l f d ≡ refused (ManyVariables (frame_at x))
unfolding written
number_7 c l f d x e = rw e

pub number_8 : (c : Setting) (l : List Given) (f d : ℕ)
    → find crowded (frames_in l) ≡ none → ltb f (length (frame_stream c l)) ≡ true
    → written c l f d ≡ refused (ShortFrames (length (frame_stream c l)))
unfolding written
number_8 c l f d e a = rw (e, a)

pub number_9 : (c : Setting) (l : List Given) (f d : ℕ)
    → find crowded (frames_in l) ≡ none → ltb f (length (frame_stream c l)) ≡ false
    → ltb d (length (diag_stream l)) ≡ true → written c l f d ≡ refused (ShortDiags (length (diag_stream l)))
unfolding written
number_9 c l f d e a b = rw (e, a, b)

pub number_0 : (c : Setting) (l : List Given) (f d : ℕ)
    → find crowded (frames_in l) ≡ none → ltb f (length (frame_stream c l)) ≡ false
    → ltb d (length (diag_stream l)) ≡ false → written c l f d ≡ given (streams c l)
unfolding written
number_0 c l f d e a b = rw (e, a, b)

-- ---- 4,095 variables are not too many, 4,096 are
abbrev frame_with : ℕ → Frame
frame_with n =
    full
    (record {
      kind = 2;
      at = 0;
      label = [];
      variables = replicate n [];
      mandatory = 0;
      pool = [];
      hyps = [];
      target = record { typecode = []; fragments = []; from = 0; to = 0 };
      pairs = [];
      rows = [];
    })

pub most_variables : map crowded (frame_with 4095 ∷ frame_with 4096 ∷ []) ≡ false ∷ true ∷ []
most_variables = refl

-- ---- what ends at 9 is active at 8, and not at 9
abbrev ending_at : ℕ → State
ending_at e =
    record {
      nested = record { name = []; at = 0; end = e } ∷ [];
      hyps = float 0 e [] [] ∷ [];
      disjoints = record { end = e; names = [] } ∷ [];
    }

pub edge : map (view (ending_at 9)) (8 ∷ 9 ∷ []) ≡ ending_at 9 ∷ nothing ∷ []
unfolding view keep
edge = refl
