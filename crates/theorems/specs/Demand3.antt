-- Demand 3: a group blanked takes its own records out of both streams and changes nothing else.
-- Stated over the definitions of the answer, for each setting c; `w`, `f` and `d` are work area, frame and diagnostics buffer at entry.
use Rattle.std.specs.Prelude.{◌≡◌, Bool, true, List, ℕ, ◌<◌, eqb, ltb, length}
use Rattle.paper.specs.Base.{not, within, all, keep, gather}
use Rattle.paper.specs.Statements.{Statement}
use Rattle.paper.specs.Reader.{given, reading}
use Rattle.paper.specs.State.{State}
use Rattle.paper.specs.Checks.{Diag}
use Rattle.paper.specs.Frames.{Frame, frame_as}
use Rattle.paper.specs.Give.{Given, give, all_given}
use Rattle.paper.specs.Records.{frame_record, diag_record}
use Rattle.paper.specs.Answer.{Streams, number, frame_at, frames_in, outcome, answer, laid, frames_exit, diags_exit}
use Rattle.paper.specs.Lookup.{u32_at}
use Rattle.paper.specs.declared.Setting.{Setting}
use Rattle.theorems.specs.Groups.{Group, statements, blanked, Apart}
use Rattle.theorems.specs.TakenOut.{taken_out, records_in, streams_without}

-- what the text with the group blanked gives, by what the text gives
pub record Blanked (c : Setting) (t w f d : List ℕ) (p q : ℕ) : Type 0 where
  pub streams : Streams
  pub were : outcome c t (length w) (length f) (length d) ≡ given streams
  pub done : number (answer c (blanked t p q) (length w) (length f) (length d)) ≡ 0
  pub are : outcome c (blanked t p q) (length w) (length f) (length d) ≡ given (streams_without p q streams)
  pub frames_held : frames_exit c (blanked t p q) w f d ≡ laid f 0 (taken_out p q streams.frames)
  pub diags_held : diags_exit c (blanked t p q) w f d ≡ laid d 0 (taken_out p q streams.diags)

abbrev pub Demand3 : Type 0
Demand3 =
    (c : Setting) (t w f d : List ℕ) (p q : ℕ)
    → number (answer c t (length w) (length f) (length d)) ≡ 0
    → (g : Group t p q)
    → Apart (statements g) p q
    → Blanked c t w f d p q

-- ---- every record has its statement's offset in the four bytes after length and kind
abbrev pub at_offset : ℕ → List ℕ → Bool
at_offset o b = eqb (u32_at b 6) o

pub record Placed (c : Setting) (o : ℕ) (g : Given) : Type 0 where
  pub frame : all (λ x. at_offset o (frame_record (frame_as c x))) g.frame ≡ true
  pub diags : all (λ x. at_offset o (diag_record x)) g.diags ≡ true

-- a statement of a text stands below 16,777,216
abbrev pub Offsets : Type 0
Offsets = (c : Setting) (w : List Statement) (v : State) (s : Statement) → s.at < 16777216 → Placed c s.at (give w v s)

-- ---- the walk finds exactly the records
abbrev pub frame_outside : ℕ → ℕ → Frame → Bool
frame_outside p q x = not (within p q (frame_at x))

abbrev pub diag_outside : ℕ → ℕ → Diag → Bool
diag_outside p q x = not (within p q x.statement)

abbrev pub diags_in : List Given → List Diag
diags_in l = gather (λ g. g.diags) l

-- between any p and q, of the streams of the statements l
pub record Exact (c : Setting) (l : List Statement) (s : Streams) (p q : ℕ) : Type 0 where
  pub low : all (λ r. ltb r.at 16777216) l ≡ true
  pub frames : s.frames ≡ gather (λ x. frame_record (frame_as c x)) (frames_in (all_given l))
  pub diags : s.diags ≡ gather diag_record (diags_in (all_given l))
  pub count : s.count ≡ records_in s.frames
  pub frames_stay : taken_out p q s.frames ≡ gather (λ x. frame_record (frame_as c x)) (keep (frame_outside p q) (frames_in (all_given l)))
  pub count_stays : records_in (taken_out p q s.frames) ≡ length (keep (frame_outside p q) (frames_in (all_given l)))
  pub diags_stay : taken_out p q s.diags ≡ gather diag_record (keep (diag_outside p q) (diags_in (all_given l)))

abbrev pub Walked : Type 0
Walked =
    (c : Setting) (t : List ℕ) (w f d p q : ℕ) (l : List Statement) (s : Streams)
    → reading t w ≡ given l
    → outcome c t w f d ≡ given s
    → Exact c l s p q
