-- The frame of an accepted assertion, from the words as they are between statements to the words as they are again.
-- `h` are the rows of the active hypotheses, in text order; the rows of the active `$d` are on their stack.
use Rattle.std.specs.Prelude.{◌≡◌, ◌≢◌, true, false, Option, None, Some, List, [], map, ℕ, ◌<◌, ◌≤◌, length, get_or}
use Rattle.paper.specs.Statements.{Statement}
use Rattle.paper.specs.Checks.{token}
use Rattle.paper.specs.Variables.{mandatory}
use Rattle.paper.specs.Pairs.{in_order}
use Rattle.paper.specs.Frames.{Frame, frame_of, frame_as}
use Rattle.paper.specs.Records.{frame_record}
use Rattle.paper.specs.Answer.{crowded}
use Rattle.paper.specs.declared.Setting.{Setting}
use Rattle.paper.specs.declared.Setting.TheVariants as setting
use Rattle.paper.proofs.Alls.{All}
use Rattle.area.specs.Cells.{symbol_cell, word}
use Rattle.stream.specs.Wrote.{Wrote}
use Rattle.reader.specs.Rows.{stmt}
use Rattle.nameck.specs.Atoms.{atoms}
use Rattle.sight.specs.Static.{constant_name, static, row_hyp, row_disjoint, stack, rows_state}
use Rattle.sight.specs.Numbered.{Numbered, Renumbered}
use Rattle.history.specs.Accepted.{is_hyp}
use Rattle.forms.specs.HypRows.{HypRows}
use Rattle.disjoint.specs.Written.{names_at}
use Rattle.frames.specs.Front.{record_kind, OfAssertion}

-- the frame by the definition
unfoldable pub frame_at : List Statement → List ℕ → List ℕ → ℕ → Frame
frame_at l h d row =
    frame_of (record_kind (stmt l row).kind) (stmt l row) (rows_state l h d) (static l (stmt l row))

-- the mandatory variables
unfoldable pub needed : List Statement → List ℕ → ℕ → List (List ℕ)
needed l h row = mandatory (map (row_hyp l) h) (static l (stmt l row))

-- an accepted `$d`: its names are variables, all different
pub record Apart (l : List Statement) (r : ℕ) : Type 0 where
  pub here : r < length l
  pub variables : All (λ t. constant_name l t.bytes ≡ false) (stmt l r).math
  pub differ :
      (i j : ℕ) → i < j → j < length (stmt l r).math → (token (stmt l r) i).bytes ≢ (token (stmt l r) j).bytes

-- what the words stand for before the frame: es active `$e`, ds active `$d`, no variable numbered, no mark
pub record Framing (t w : List ℕ) (n : ℕ) (l : List Statement) (h : List ℕ) (row es ds : ℕ) : Type 0 where
  pub assertion : OfAssertion t w n l row
  pub none_numbered : Numbered w n l []
  pub hyps : HypRows w n l (needed l h row) h es row
  pub kinds : All (λ r. is_hyp (stmt l r).kind ≡ true) h
  pub inside : (j : ℕ) → j < es → get_or (stack w 10 es) j 0 < length l
  pub deep : es ≤ length l
  pub apart : All (Apart l) (stack w 11 ds)
  pub depth : ds ≤ length l
  pub ordered : in_order (map (row_disjoint l) (stack w 11 ds)) ≡ map (names_at l) (stack w 11 ds)
  pub marks : (a : ℕ) → a < length (atoms l) → word w (symbol_cell n a 6) ≡ 0

pub record SomeFraming (t w : List ℕ) (n row es ds : ℕ) : Type 0 where
  pub l : List Statement
  pub h : List ℕ
  pub holds : Framing t w n l h row es ds

-- how many variables are written, of v variables of which the first m are mandatory
abbrev pub drawn_of : Setting → ℕ → ℕ → ℕ
drawn_of setting.Short v m = m
drawn_of setting.Full v m = v

-- written as the setting c has it, with the place after it; or with over 4,095 variables
pub data BuiltAs (c : Setting) (b b' : List ℕ) (at : ℕ) (x : Frame) : Option ℕ → Type 0 where
  built : {r : ℕ} → crowded x ≡ false → Wrote b b' at r (frame_record (frame_as c x)) → BuiltAs c b b' at x (Some r)
  over : crowded x ≡ true → b' ≡ b → BuiltAs c b b' at x None

pub record Frames (c : Setting) (t w v : List ℕ) (n row es ds : ℕ) (b b' : List ℕ) (at : ℕ) (r : Option ℕ) : Type 0 where
  pub kept : Renumbered n w v
  pub len : length b' ≡ length b
  pub sim :
      (l : List Statement) (h : List ℕ) → Framing t w n l h row es ds
      → Numbered v n l [] × BuiltAs c b b' at (frame_at l h (stack w 11 ds) row) r
