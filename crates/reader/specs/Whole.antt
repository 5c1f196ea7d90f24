-- What reading a whole text promises: with its items, with the ends of its statements, and with all of numbers 1 to 6.
-- `t` is the text, `w` and `v` the words before and after, `n` is N + 1.
use Rattle.std.specs.Prelude.{◌≡◌, Result, Ok, Err, List, ℕ, ◌+◌, ◌*◌, ◌<◌, length, replicate}
use Rattle.paper.specs.Tokens.{tokens}
use Rattle.paper.specs.Statements.{Statement, Item}
use Rattle.paper.specs.Reader.{Outcome, refused, given, items, with_ends, reading}
use Rattle.paper.specs.Answer.{refusal_line}
use Rattle.paper.specs.declared.Refused.{Refused}
use Rattle.paper.specs.declared.Statements.{Statements}
use Rattle.reader.specs.Rows.{before, Rows}
use Rattle.reader.specs.Passed.{RefusedAt}
use Rattle.reader.specs.Kept.{Words}
use Rattle.reader.specs.declared.state.State.{State}

pub record Finished (t v : List ℕ) (n : ℕ) (s : State) : Type 0 where
  pub found : List Item
  pub words : Words t v n found s.rows s.maths s.items
  pub outcome : items (tokens t) (length t) ≡ given found
  pub few : 3 * s.rows < n
  pub maths : s.maths < n
  pub items_few : s.items < n

abbrev pub AllRead : List ℕ → List ℕ → ℕ → Result State Refused → Type 0
AllRead t v n (Ok s) = Finished t v n s
AllRead t v n (Err r) = RefusedAt t r.refusal r.line

-- the answer r and the words v are those of an outcome, in a work area of m words
abbrev pub Answers : List ℕ → List ℕ → ℕ → Outcome (List Statement) → Result Statements Refused → Type 0
Answers t v m (refused x) r = (r ≡ Err (record { refusal = x; line = refusal_line t x })) × (v ≡ replicate m 0)
Answers t v m (given l) r = (r ≡ Ok (record { rows = length l; maths = before l (length l) })) × Rows t v (length (tokens t) + 1) l × (length v ≡ m)

abbrev pub TextRead : List ℕ → List ℕ → List ℕ → ℕ → Result Statements Refused → Type 0
TextRead t w v n r = Answers t v (length w) (with_ends (items (tokens t) (length t))) r

-- the promise of the reader, for every text and every work area
abbrev pub Reads : List ℕ → List ℕ → List ℕ → Result Statements Refused → Type 0
Reads t w v r = Answers t v (length w) (reading t (length w)) r
