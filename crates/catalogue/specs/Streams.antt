-- A text that is read: answers and buffers are those of what its statements give.
-- `c` is the setting; `f` and `d` are the buffers at entry, `f'` and `d'` at exit.
use Rattle.std.specs.Prelude.{◌≡◌, List, ℕ, length}
use Rattle.std.proofs.Math.Option.{none, some}
use Rattle.paper.specs.Base.{find}
use Rattle.paper.specs.Statements.{Statement}
use Rattle.paper.specs.Frames.{Frame}
use Rattle.paper.specs.Give.{Given, all_given}
use Rattle.paper.specs.Records.{frame_stream, diag_stream}
use Rattle.paper.specs.Answer.{Answer, done, not_done, crowded, frame_at, frames_in, measured, written, answer_of, frames_of, diags_of}
use Rattle.paper.specs.declared.Setting.{Setting}
use Rattle.paper.specs.declared.Refusal.TheVariants.{ManyVariables}
use Rattle.fold.specs.Fold.{Whole}
use Rattle.fold.specs.Start.{Held}

-- ---- a fold that writes nothing
-- the lengths of both streams and the number of frames; or the first frame with over 4,095 variables
pub data Sized (c : Setting) (g : List Given) : Answer → Type 0 where
  sized : {p q n : ℕ}
      → find crowded (frames_in g) ≡ none → p ≡ length (frame_stream c g) → q ≡ length (diag_stream g) → n ≡ length (frames_in g)
      → Sized c g (done p q n)
  crowd : (x : Frame) → find crowded (frames_in g) ≡ some x → Sized c g (not_done (ManyVariables (frame_at x)) 0)

-- the words v after it can be folded again
pub record Sizes (c : Setting) (t w v : List ℕ) (n rows names : ℕ) (r : Answer) : Type 0 where
  pub sim : {l : List Statement} → Whole t w n rows names l → Whole t v n rows names l × Sized c (all_given l) r

-- ---- the measure
pub record Needed (c : Setting) (t w : List ℕ) (rows : ℕ) (r : Answer) : Type 0 where
  pub sim : {l : List Statement} → Held t w rows l → r ≡ answer_of t (measured c (all_given l))

-- ---- the writer
pub record Gives (c : Setting) (t : List ℕ) (g : List Given) (f f' d d' : List ℕ) (r : Answer) : Type 0 where
  pub answer : r ≡ answer_of t (written c g (length f) (length d))
  pub frames : f' ≡ frames_of (written c g (length f) (length d)) f
  pub diags : d' ≡ diags_of (written c g (length f) (length d)) d

pub record Answered (c : Setting) (t w : List ℕ) (rows : ℕ) (f f' d d' : List ℕ) (r : Answer) : Type 0 where
  pub sim : {l : List Statement} → Held t w rows l → Gives c t (all_given l) f f' d d' r
