-- What is known between two items of a text, and what reading the next one promises.
-- `t` is the text, `w` and `v` the words before and after, `n` is N + 1.
use Rattle.std.specs.Prelude.{◌≡◌, true, Option, Some, None, Result, Ok, Err, List, [], ℕ, ◌+◌, ◌<◌, ◌≤◌, length}
use Rattle.paper.specs.Comments.{outside}
use Rattle.paper.specs.Statements.{Kind, $p, labelled, Item}
use Rattle.paper.specs.Reader.{start, math, proof, go}
use Rattle.paper.specs.declared.Refused.{Refused}
use Rattle.token.specs.Words.{tokens_from, Lined}
use Rattle.reader.specs.Rows.{Stands}
use Rattle.reader.specs.Kinds.{kind_of}
use Rattle.reader.specs.Passed.{Passed, Gap, Reached, RefusedAt}
use Rattle.reader.specs.Runs.{Running}
use Rattle.reader.specs.Kept.{Words}
use Rattle.reader.specs.declared.kind.Kind as told
use Rattle.reader.specs.declared.state.State.{State}
use Rattle.reader.specs.declared.state.Head.{Head}

-- between two items
pub record Held (t w : List ℕ) (n : ℕ) (s : State) : Type 0 where
  pub found : List Item
  pub words : Words t w n found s.rows s.maths s.items
  pub reached : Reached t s.cursor.at (s.rows + s.items + s.maths) (go start s.depth found)
  pub lined : Lined t s.cursor
  pub deep : s.depth ≤ s.items

-- after the keyword of a statement of the kind k
pub record Begun (t w : List ℕ) (n : ℕ) (s : State) (k : told.Kind) (h : Head) : Type 0 where
  pub found : List Item
  pub words : Words t w n found s.rows s.maths s.items
  pub deep : s.depth ≤ s.items
  pub kind : Kind
  pub name : List ℕ
  pub code : k ≡ kind_of kind
  pub label : h.label ≡ length name
  pub bears : labelled kind ≡ true → Stands t (record { at = h.at; bytes = name })
  pub reached : Reached t h.from.at (s.rows + s.items + s.maths + 1) (go (math kind h.at name []) s.depth found)
  pub less : length (tokens_from t h.from.at) < length (tokens_from t s.cursor.at)
  pub gap : Gap t h.from.at
  pub lined : Lined t h.from
  pub within : h.from.at ≤ length t
  pub at : h.at ≤ length t
  pub size : h.label ≤ length t

-- after the `$=` of a `$p`, whose math string stops at `to`
pub record Stated (t u : List ℕ) (n : ℕ) (s : State) (h : Head) (to count at : ℕ) : Type 0 where
  pub base : List ℕ
  pub which : told.Kind
  pub begun : Begun t base n s which h
  pub most : ℕ
  pub run : Running t base u n h.from.at most s.maths to count
  pub some : 1 ≤ count
  pub kind : begun.kind ≡ $p
  pub reached : Reached t at (s.rows + s.items + s.maths + 2 + count) (go (proof h.at begun.name run.ms []) s.depth begun.found)
  pub less : length (tokens_from t at) < length (tokens_from t s.cursor.at)

-- what reading an item that begins at `at` or later promises
abbrev pub Turned : List ℕ → List ℕ → ℕ → ℕ → Result State Refused → Type 0
Turned t v n at (Ok s) = Held t v n s × (length (tokens_from t s.cursor.at) < length (tokens_from t at))
Turned t v n at (Err r) = RefusedAt t r.refusal r.line

-- and what looking for one promises
abbrev pub Taken : List ℕ → List ℕ → List ℕ → ℕ → ℕ → Result (Option State) Refused → Type 0
Taken t w v n at (Ok (Some s)) = Held t v n s × (length (tokens_from t s.cursor.at) < length (tokens_from t at))
Taken t w v n at (Ok None) = Passed t at (length t) outside [] outside × (v ≡ w)
Taken t w v n at (Err r) = RefusedAt t r.refusal r.line
