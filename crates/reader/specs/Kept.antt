-- What the words hold while a text is read: the rows of the statements read so far, without their ends, and one word for each item.
-- `t` is the text, `w` the words, `n` is N + 1, `i` the items read so far.
use Rattle.std.specs.Prelude.{◌≡◌, true, List, [], ◌∷◌, ℕ, ◌+◌, ◌-◌, ◌*◌, ◌<◌, ◌≤◌, length, get_or, take, drop}
use Rattle.std.proofs.lemmas.List.Edits.{sets}
use Rattle.paper.specs.Base.{gather}
use Rattle.paper.specs.Tokens.{toks, tokens}
use Rattle.paper.specs.Comments.{outside, visible}
use Rattle.paper.specs.Statements.{labelled, Statement, Item, opens, closes, states}
use Rattle.paper.specs.Checks.{token}
use Rattle.area.specs.Cells.{statement_cell, bucket_cell, math_cell, word}
use Rattle.reader.specs.Rows.{stmt, before, kind_number, Stands, label_of}
use Rattle.token.specs.declared.cursor.Cursor.{Cursor}
use Rattle.reader.specs.declared.state.State.{State}
use Rattle.reader.specs.declared.state.Head.{Head}

-- the statements among the items
abbrev pub stated_by : Item → List Statement
stated_by (opens p) = []
stated_by (closes q) = []
stated_by (states s) = s ∷ []

unfoldable pub stated : List Item → List Statement
stated i = gather stated_by i

-- the word for an item, in the bucket column: 0 for a statement, 1 for `${`, offset + 2 for `$}`
abbrev pub event : Item → ℕ
event (opens p) = 1
event (closes q) = q + 2
event (states s) = 0

abbrev pub no_item : Item
no_item = opens 0

-- row s holds the statement x, but for its end; m math tokens stand before it
pub record Row (t w : List ℕ) (n s : ℕ) (x : Statement) (m : ℕ) : Type 0 where
  pub kind : word w (statement_cell s 0) ≡ kind_number x.kind
  pub at : word w (statement_cell s 1) ≡ x.at
  pub label : word w (statement_cell s 2) ≡ length x.label
  pub from_to : word w (statement_cell s 3) ≤ word w (statement_cell s 4)
  pub within : word w (statement_cell s 4) ≤ length t
  pub first : word w (statement_cell s 5) ≡ m
  pub count : word w (statement_cell s 6) ≡ length x.math
  pub part :
      visible (toks (take (word w (statement_cell s 4) - word w (statement_cell s 3)) (drop (word w (statement_cell s 3)) t)) (word w (statement_cell s 3))) outside
      ≡ x.math
  pub bears : labelled x.kind ≡ true → Stands t (label_of x)
  pub math : (k : ℕ) → k < length x.math → word w (math_cell n (m + k)) ≡ (token x k).at
  pub stands : (k : ℕ) → k < length x.math → Stands t (token x k)

pub record Words (t w : List ℕ) (n : ℕ) (i : List Item) (rows maths items : ℕ) : Type 0 where
  pub size : n ≡ length (tokens t) + 1
  pub room : 16 * n ≤ length w
  pub short : length t ≤ 16777216
  pub stated_rows : length (stated i) ≡ rows
  pub all_maths : before (stated i) rows ≡ maths
  pub all_items : length i ≡ items
  pub little : rows ≤ maths
  pub fewer : rows ≤ items
  pub kept : (s : ℕ) → s < rows → Row t w n s (stmt (stated i) s) (before (stated i) s)
  pub events : (j : ℕ) → j < items → word w (bucket_cell n j) ≡ event (get_or i j no_item)
  -- the words of the items to come
  pub fresh : (c : ℕ) → 7 * n + items ≤ c → c < 8 * n → word w c ≡ 0

-- one more row, with these words
unfoldable pub with_row : List ℕ → ℕ → ℕ → Head → ℕ → ℕ → ℕ → List ℕ
with_row w s kind h to first count =
    sets w (statement_cell s 0) (kind ∷ h.at ∷ h.label ∷ h.from.at ∷ to ∷ first ∷ count ∷ [])

-- what a row asks
pub record RowRoom (w : List ℕ) (s : State) (h : Head) (to count : ℕ) : Type 0 where
  pub row : 12 * s.rows + 12 ≤ length w
  pub few : s.rows < 16777216
  pub at : h.at ≤ 16777216
  pub label : h.label ≤ 16777216
  pub from : h.from.at ≤ 16777216
  pub upto : to ≤ 16777216
  pub maths : s.maths + count ≤ 16777216
  pub items : s.items < 16777217

abbrev pub next_state : State → ℕ → Cursor → State
next_state s count c =
    record { cursor = c; rows = s.rows + 1; maths = s.maths + count; items = s.items + 1; depth = s.depth }

-- what the word of an item asks
pub record EventRoom (w : List ℕ) (n : ℕ) (s : State) : Type 0 where
  pub room : 16 * n ≤ length w
  pub few : s.items < n
  pub small : n ≤ 16777217
  pub deep : s.depth ≤ s.items

-- the states after `${` and after `$}`
abbrev pub opened : State → Cursor → State
opened s c =
    record { cursor = c; rows = s.rows; maths = s.maths; items = s.items + 1; depth = s.depth + 1 }

abbrev pub shut_one : State → Cursor → State
shut_one s c =
    record { cursor = c; rows = s.rows; maths = s.maths; items = s.items + 1; depth = s.depth - 1 }
