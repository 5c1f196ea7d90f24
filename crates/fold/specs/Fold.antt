-- The fold over all statements: what it asks of the words, and what words and streams are afterwards.
-- `l` is the statements of the text t; a promise is for every l that the words stand for.
use Rattle.std.specs.Prelude.{◌≡◌, Option, None, Some, Result, Ok, Err, List, [], ℕ, ◌<◌, ◌≤◌, length}
use Rattle.std.proofs.Math.Option.{none, some}
use Rattle.paper.specs.Base.{find}
use Rattle.paper.specs.Statements.{Statement}
use Rattle.paper.specs.Frames.{Frame}
use Rattle.paper.specs.Give.{Given, all_given}
use Rattle.paper.specs.Records.{frame_records, frame_stream, diag_stream}
use Rattle.paper.specs.Answer.{crowded, frame_at, frames_in}
use Rattle.paper.specs.declared.Setting.{Setting}
use Rattle.paper.specs.declared.StatementOffset.{StatementOffset}
use Rattle.stream.specs.Wrote.{Wrote}
use Rattle.facts.specs.States.{given_at}
use Rattle.sight.specs.Numbered.{Numbered}
use Rattle.slots.specs.Kept.{Kept}
use Rattle.slots.specs.Marks.{Marks}
use Rattle.scopeck.specs.declared.Scope.{Scope}
use Rattle.scopeck.specs.Fold as checks
use Rattle.fold.specs.Turn.{Turned}
use Rattle.fold.specs.declared.all.Streams.{Streams}

-- the frame records of one statement are short, as every name in them stands in the text
abbrev pub Short : List Statement → Type 0
Short l = (c : Setting) (k : ℕ) → k < length l → find crowded (given_at l k).frame ≡ none → length (frame_records c (given_at l k)) ≤ 4294967300

-- no variable is numbered
pub record Unframed (w : List ℕ) (n : ℕ) (l : List Statement) : Type 0 where
  pub free : Numbered w n l []
  pub short : Short l

-- ---- one statement: its checks, and its frame
pub record Before (t w : List ℕ) (n : ℕ) (l : List Statement) (st : Scope) (k : ℕ) : Type 0 where
  pub checks : checks.Before t w n l st k
  pub unframed : Unframed w n l

pub record SomeBefore (t w : List ℕ) (n : ℕ) (st : Scope) (k : ℕ) : Type 0 where
  pub of : List Statement
  pub holds : Before t w n of st k

-- the words after the checks are v, and after the frame u
pub data Stepped (c : Setting) (t w u b b' o o' : List ℕ) (n : ℕ) (st : Scope) (at k : ℕ) : Option (Scope × ℕ) → Type 0 where
  next : {v : List ℕ} {s : Scope} {r : ℕ}
      → checks.Steps t w v o o' n st s k → Turned c t v u n s k b b' at (Some r) → Stepped c t w u b b' o o' n st at k (Some (s, r))
  over : {v : List ℕ} {s : Scope}
      → checks.Steps t w v o o' n st s k → Turned c t v u n s k b b' at None → Stepped c t w u b b' o o' n st at k None

-- ---- all statements
pub record Blank (t w : List ℕ) (n rows : ℕ) (l : List Statement) : Type 0 where
  pub checks : checks.Blank t w n rows l
  pub unframed : Unframed w n l

pub record SomeBlank (t w : List ℕ) (n rows : ℕ) : Type 0 where
  pub of : List Statement
  pub holds : Blank t w n rows of

-- what is asked at the start of each pass, and holds again after it
pub record Whole (t w : List ℕ) (n rows names : ℕ) (l : List Statement) : Type 0 where
  pub checks : checks.Whole t w n rows names l
  pub unframed : Unframed w n l

pub record SomeWhole (t w : List ℕ) (n rows names : ℕ) : Type 0 where
  pub of : List Statement
  pub holds : Whole t w n rows names of

-- both streams of what the statements give, with the frames as the setting c has them, and the number of frames; or the first frame with over 4,095 variables
pub data Streamed (c : Setting) (b b' o o' : List ℕ) (g : List Given) : Result Streams StatementOffset → Type 0 where
  streams : {f d n : ℕ}
      → find crowded (frames_in g) ≡ none → Wrote b b' 0 f (frame_stream c g) → Wrote o o' 0 d (diag_stream g) → n ≡ length (frames_in g)
      → Streamed c b b' o o' g (Ok (record { frames = f; diags = d; count = n }))
  crowd : (x : Frame) → find crowded (frames_in g) ≡ some x → Streamed c b b' o o' g (Err (record { 0 = frame_at x }))

-- the words are named as before, no mark is left and no variable numbered
pub record Clean (w : List ℕ) (n : ℕ) (l : List Statement) : Type 0 where
  pub marks : Marks w n l []
  pub free : Numbered w n l []

pub record FoldsBlank (c : Setting) (t w v b b' o o' : List ℕ) (n rows : ℕ) (r : Result Streams StatementOffset) : Type 0 where
  pub kept : Kept n 8 12 2 7 w v
  pub frames : length b' ≡ length b
  pub diags : length o' ≡ length o
  pub sim : {l : List Statement} → Blank t w n rows l → Clean v n l × Streamed c b b' o o' (all_given l) r

pub record FoldsAll (c : Setting) (t w v b b' o o' : List ℕ) (n rows names : ℕ) (r : Result Streams StatementOffset) : Type 0 where
  pub len : length v ≡ length w
  pub frames : length b' ≡ length b
  pub diags : length o' ≡ length o
  pub sim : {l : List Statement} → Whole t w n rows names l → Whole t v n rows names l × Streamed c b b' o o' (all_given l) r
