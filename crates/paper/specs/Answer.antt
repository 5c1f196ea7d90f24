-- Numbers given back: what measure and writer answer, with 0 to 9 in their order, and every lent buffer at exit.
-- Numbers 1 to 9 report all lengths as 0 and change neither output buffer; the measure gives none of 8 and 9.
use Rattle.std.specs.Prelude.{Bool, false, List, [], ◌++◌, ℕ, ◌+◌, ltb, length, take, drop, replicate}
use Rattle.std.specs.Prelude.{Result, Ok, Err}
use Rattle.std.proofs.Math.Option.{Option, none, some}
use Rattle.paper.specs.Base.{choose, find, gather}
use Rattle.paper.specs.Lines.{line_at}
use Rattle.paper.specs.Statements.{Statement}
use Rattle.paper.specs.Reader.{Outcome, refused, given, reading}
use Rattle.paper.specs.Frames.{Frame, stub, full}
use Rattle.paper.specs.Give.{Given, all_given}
use Rattle.paper.specs.Verdicts.{ProofEnd, all_verdicts, exceeding}
use Rattle.paper.specs.Records.{frame_stream, diag_stream, verdict_stream}
use Rattle.paper.specs.declared.Refusal.{Refusal}
use Rattle.paper.specs.declared.Refusal.TheVariants.{LongText, ShortWork, BadByte, OpenComment, BadToken, OpenText, ManyVariables, ShortFrames, ShortDiags}
use Rattle.paper.specs.declared.Setting.{Setting}
use Rattle.paper.specs.declared.Refused.{Refused}
use Rattle.paper.specs.declared.Lengths.{Lengths}

-- ---- the number, place and line of each refusal
abbrev pub refusal_number : Refusal → ℕ
refusal_number LongText = 1
refusal_number (ShortWork p) = 2
refusal_number (BadByte p) = 3
refusal_number (OpenComment p) = 4
refusal_number (BadToken p) = 5
refusal_number (OpenText p) = 6
refusal_number (ManyVariables p) = 7
refusal_number (ShortFrames p) = 8
refusal_number (ShortDiags p) = 9

abbrev pub refusal_place : Refusal → ℕ
refusal_place LongText = 0
refusal_place (ShortWork p) = p
refusal_place (BadByte p) = p
refusal_place (OpenComment p) = p
refusal_place (BadToken p) = p
refusal_place (OpenText p) = p
refusal_place (ManyVariables p) = p
refusal_place (ShortFrames p) = p
refusal_place (ShortDiags p) = p

-- Numbers 3, 4 and 5 answer a line beside the place; all other numbers answer line 0.
abbrev pub refusal_line : List ℕ → Refusal → ℕ
refusal_line t LongText = 0
refusal_line t (ShortWork p) = 0
refusal_line t (BadByte p) = line_at t p
refusal_line t (OpenComment p) = line_at t p
refusal_line t (BadToken p) = line_at t p
refusal_line t (OpenText p) = 0
refusal_line t (ManyVariables p) = 0
refusal_line t (ShortFrames p) = 0
refusal_line t (ShortDiags p) = 0

-- ---- what measure and writer answer: the lengths that are needed or used, or a refusal with its line
abbrev pub Answer : Type 0
Answer = Result Lengths Refused

abbrev pub done : ℕ → ℕ → ℕ → Answer
done f d n = Ok (record { frames = f; diags = d; count = n })

abbrev pub not_done : Refusal → ℕ → Answer
not_done r l = Err (record { refusal = r; line = l })

-- ---- its number, place, line, lengths and number of frames
abbrev pub number : Answer → ℕ
number (Ok s) = 0
number (Err r) = refusal_number r.refusal

abbrev pub place : Answer → ℕ
place (Ok s) = 0
place (Err r) = refusal_place r.refusal

abbrev pub line : Answer → ℕ
line (Ok s) = 0
line (Err r) = r.line

abbrev pub frames_used : Answer → ℕ
frames_used (Ok s) = s.frames
frames_used (Err r) = 0

abbrev pub diags_used : Answer → ℕ
diags_used (Ok s) = s.diags
diags_used (Err r) = 0

abbrev pub count : Answer → ℕ
count (Ok s) = s.count
count (Err r) = 0

-- ---- number 7: an assertion's frame has over 4,095 variables
abbrev pub crowded : Frame → Bool
crowded (stub o e n c v) = false
crowded (full f) = ltb 4095 (length f.variables)

abbrev pub frame_at : Frame → ℕ
frame_at (stub o e n c v) = o
frame_at (full f) = f.at

abbrev pub frames_in : List Given → List Frame
frames_in l = gather (λ g. g.frame) l

-- both streams, and how many records the first has
pub record Streams : Type 0 where
  pub frames : List ℕ
  pub diags : List ℕ
  pub count : ℕ

-- `c` is the setting of the frames
abbrev pub streams : Setting → List Given → Streams
streams c l = record { frames = frame_stream c l; diags = diag_stream l; count = length (frames_in l) }

-- ---- what the measure answers
abbrev pub unless_crowded : Setting → Option Frame → List Given → Outcome Streams
unless_crowded c (some x) l = refused (ManyVariables (frame_at x))
unless_crowded c none l = given (streams c l)

-- number 7, for what the statements give
unfoldable pub measured : Setting → List Given → Outcome Streams
measured c l = unless_crowded c (find crowded (frames_in l)) l

abbrev pub measured_of : Setting → Outcome (List Statement) → Outcome Streams
measured_of c (refused r) = refused r
measured_of c (given l) = measured c (all_given l)

-- the streams of a text, given so many words of work area; or one of numbers 1 to 7
unfoldable pub measuring : Setting → List ℕ → ℕ → Outcome Streams
measuring c t w = measured_of c (reading t w)

-- of the text t
abbrev pub answer_of : List ℕ → Outcome Streams → Answer
answer_of t (refused r) = not_done r (refusal_line t r)
answer_of t (given s) = done (length s.frames) (length s.diags) s.count

unfoldable pub measure : Setting → List ℕ → ℕ → Answer
measure c t w = answer_of t (measuring c t w)

-- ---- what the writer answers
-- numbers 8 and 9, for buffers of f and d bytes
abbrev pub fitting : Streams → ℕ → ℕ → Outcome Streams
fitting s f d =
    choose (ltb f (length s.frames)) (refused (ShortFrames (length s.frames)))
    (choose (ltb d (length s.diags)) (refused (ShortDiags (length s.diags))) (given s))

abbrev pub numbered : Setting → Option Frame → List Given → ℕ → ℕ → Outcome Streams
numbered c (some x) l f d = refused (ManyVariables (frame_at x))
numbered c none l f d = fitting (streams c l) f d

-- numbers 7, 8 and 9, for what the statements give
unfoldable pub written : Setting → List Given → ℕ → ℕ → Outcome Streams
written c l f d = numbered c (find crowded (frames_in l)) l f d

abbrev pub written_of : Setting → Outcome (List Statement) → ℕ → ℕ → Outcome Streams
written_of c (refused r) f d = refused r
written_of c (given l) f d = written c (all_given l) f d

-- the streams of a text, given so many words of work area and bytes of output buffers; or one of numbers 1 to 9
unfoldable pub outcome : Setting → List ℕ → ℕ → ℕ → ℕ → Outcome Streams
outcome c t w f d = written_of c (reading t w) f d

unfoldable pub answer : Setting → List ℕ → ℕ → ℕ → ℕ → Answer
answer c t w f d = answer_of t (outcome c t w f d)

-- ---- the proofs (document 02, A1): number 12 at the first `$p` that exceeds the stack; then 17 with the bytes needed, for a
-- verdict buffer that is too short; else the verdict stream. Both come after 9
pub data Proofs : Type 0 where
  short_stack : ℕ → Proofs
  short_verdicts : ℕ → Proofs
  judged : List ℕ → Proofs

abbrev pub proofs_number : Proofs → ℕ
proofs_number (short_stack p) = 12
proofs_number (short_verdicts p) = 17
proofs_number (judged b) = 0

abbrev pub proofs_place : Proofs → ℕ
proofs_place (short_stack p) = p
proofs_place (short_verdicts p) = p
proofs_place (judged b) = 0

abbrev pub verdicts_of : Proofs → List ℕ
verdicts_of (short_stack p) = []
verdicts_of (short_verdicts p) = []
verdicts_of (judged b) = b

-- a verdict buffer of n bytes
abbrev pub unless_short : Option ProofEnd → List ℕ → ℕ → Proofs
unless_short (some x) b n = short_stack x.at
unless_short none b n = choose (ltb n (length b)) (short_verdicts (length b)) (judged b)

unfoldable pub judging : List ProofEnd → ℕ → Proofs
judging l n = unless_short (find (λ x. exceeding x.ending) l) (verdict_stream l) n

abbrev pub proofs_of : Outcome (List Statement) → ℕ → ℕ → Outcome Proofs
proofs_of (refused r) k n = refused r
proofs_of (given l) k n = given (judging (all_verdicts k l) n)

-- the proofs of a text that gets none of numbers 7 to 9, given so many words of work area and of stack and bytes of verdict
-- buffer; or one of numbers 1 to 6
unfoldable pub proofs : List ℕ → ℕ → ℕ → ℕ → Outcome Proofs
proofs t w k n = proofs_of (reading t w) k n

-- ---- what the lent buffers hold at exit
-- the bytes b laid over a buffer from a place on; the others keep their contents
unfoldable pub laid : List ℕ → ℕ → List ℕ → List ℕ
laid l at b = take at l ++ (b ++ drop (at + length b) l)

abbrev pub frames_of : Outcome Streams → List ℕ → List ℕ
frames_of (refused r) l = l
frames_of (given s) l = laid l 0 s.frames

abbrev pub diags_of : Outcome Streams → List ℕ → List ℕ
diags_of (refused r) l = l
diags_of (given s) l = laid l 0 s.diags

-- the frame buffer f, the diagnostics buffer d and the work area w at entry
unfoldable pub frames_exit : Setting → List ℕ → List ℕ → List ℕ → List ℕ → List ℕ
frames_exit c t w f d = frames_of (outcome c t (length w) (length f) (length d)) f

unfoldable pub diags_exit : Setting → List ℕ → List ℕ → List ℕ → List ℕ → List ℕ
diags_exit c t w f d = diags_of (outcome c t (length w) (length f) (length d)) d

-- The work area holds only zeros after every call.
unfoldable pub work_exit : List ℕ → List ℕ
work_exit w = replicate (length w) 0
