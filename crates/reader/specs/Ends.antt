-- Ends, found from the last item to the first: the `$}` that are open to the left stand as a stack in the symbol columns.
-- `w` and `v` are the words before and after, `n` is N + 1, `i` the items whose words stand in the bucket column.
use Rattle.std.specs.Prelude.{◌≡◌, ◌≢◌, List, [], ◌∷◌, ℕ, zero, suc, ◌+◌, ◌-◌, ◌*◌, ◌<◌, ◌≤◌, eqb, length, get_or, drop, set}
use Rattle.paper.specs.Base.{choose}
use Rattle.paper.specs.Statements.{Item, top, closers, ends}
use Rattle.area.specs.Cells.{statement_cell, bucket_cell, word}
use Rattle.reader.specs.Rows.{stmt}
use Rattle.reader.specs.Kept.{stated, event, no_item}
use Rattle.reader.specs.declared.end.Back.{Back}

-- the cell of the stack's entry d, from the bottom
abbrev pub stack_cell : ℕ → ℕ → ℕ
stack_cell n d = 8 * n + d

-- the stack of d words, the top first
unfoldable pub stack_of : List ℕ → ℕ → ℕ → List ℕ
stack_of w n zero = []
stack_of w n (suc d) = word w (stack_cell n d) ∷ stack_of w n d

-- one item back, by its word e: the words, and the row and depth
unfoldable pub back_words : List ℕ → ℕ → ℕ → ℕ → ℕ → List ℕ
back_words w n e row d =
    choose (eqb e 0) (set w (statement_cell (row - 1) 7) (top (stack_of w n d)))
    (choose (eqb e 1) w (set w (stack_cell n d) (e - 2)))

abbrev pub back_state : ℕ → ℕ → ℕ → Back
back_state e row d =
    choose (eqb e 0) (record { row = row - 1; depth = d })
    (choose (eqb e 1) (record { row = row; depth = d - 1 }) (record { row = row; depth = d + 1 }))

-- what one item back asks
pub record BackRoom (w : List ℕ) (n j row d : ℕ) : Type 0 where
  pub room : 16 * n ≤ length w
  pub small : n ≤ 16777217
  pub item : j < n
  pub rows : 3 * row < n
  pub deep : d < n
  pub some : word w (bucket_cell n j) ≡ 0 → 0 < row

-- the items i stand in the bucket column
pub record Events (w : List ℕ) (n : ℕ) (i : List Item) (rows items : ℕ) : Type 0 where
  pub all_items : length i ≡ items
  pub stated_rows : length (stated i) ≡ rows
  pub events : (j : ℕ) → j < items → word w (bucket_cell n j) ≡ event (get_or i j no_item)

pub record EndsRoom (w : List ℕ) (n rows items : ℕ) : Type 0 where
  pub found : List Item
  pub held : Events w n found rows items
  pub room : 16 * n ≤ length w
  pub small : n ≤ 16777217
  pub few : items < n
  pub less : 3 * rows < n

-- only ends and the stack may differ
pub record Aside (w v : List ℕ) (n rows items : ℕ) : Type 0 where
  pub len : length v ≡ length w
  pub kept : (s c : ℕ) → s < rows → c < 12 → c ≢ 7 → word v (statement_cell s c) ≡ word w (statement_cell s c)
  pub rest : (c : ℕ) → 12 * rows ≤ c → c < 8 * n → word v c ≡ word w c
  pub above : (c : ℕ) → 8 * n + items ≤ c → word v c ≡ word w c

-- from item j on, ends are found
pub record Found (w : List ℕ) (n : ℕ) (i : List Item) (rows j row d : ℕ) : Type 0 where
  pub stack : stack_of w n d ≡ closers (drop j i) []
  pub counted : row + length (stated (drop j i)) ≡ rows
  pub ends_from : (s : ℕ) → row ≤ s → s < rows → word w (statement_cell s 7) ≡ (stmt (ends (drop j i) []) (s - row)).end

pub record Backward (w v : List ℕ) (n rows items j row d : ℕ) : Type 0 where
  pub aside : Aside w v n rows items
  pub upto : j ≤ items
  pub deep : d + j ≤ items
  pub sim : (i : List Item) → Events w n i rows items → Found v n i rows j row d

pub record Ended (w v : List ℕ) (n rows items : ℕ) : Type 0 where
  pub aside : Aside w v n rows items
  pub sim : (i : List Item) → Events w n i rows items → (s : ℕ) → s < rows → word v (statement_cell s 7) ≡ (stmt (ends i []) s).end
