-- What writing the pairs and rows of a frame asks and promises.
-- `k` variables, the first m of them mandatory, the first z with rows; d `$d` are active, their rows on the stack in word 11.
use Rattle.std.specs.Prelude.{◌≡◌, ◌≢◌, true, List, ◌++◌, map, ℕ, ◌+◌, ◌<◌, ◌≤◌, ◌^◌, length, get_or, take}
use Rattle.paper.specs.Base.{gather}
use Rattle.paper.specs.Statements.{Statement}
use Rattle.paper.specs.Checks.{token}
use Rattle.paper.specs.Variables.{member}
use Rattle.paper.specs.Pairs.{Pair, pairs, rows}
use Rattle.paper.specs.Records.{u32, pair_bytes, row_bytes}
use Rattle.area.specs.Cells.{symbol_cell, word}
use Rattle.reader.specs.Rows.{stmt}
use Rattle.nameck.specs.Atoms.{atoms}
use Rattle.sight.specs.Static.{row_disjoint, stack}
use Rattle.sight.specs.Numbered.{Holds}
use Rattle.stream.specs.Wrote.{Wrote}
use Rattle.disjoint.specs.Drawn.{once, square}

-- the names of the `$d` of row r
abbrev pub names_at : List Statement → ℕ → List (List ℕ)
names_at l r = (row_disjoint l r).names

-- count, pairs and rows: m are the mandatory variables, vs all of them, d the names of each active `$d`
abbrev pub disjoint_bytes : List (List ℕ) → List (List ℕ) → List (List (List ℕ)) → List ℕ
disjoint_bytes m vs d = u32 (length (pairs m d)) ++ (gather pair_bytes (pairs m d) ++ gather row_bytes (rows vs d))

-- the `$d` of row r: its names are variables of the frame, all different
pub record Names (l : List Statement) (vs : List (List ℕ)) (r : ℕ) : Type 0 where
  pub here : r < length l
  pub known : (i : ℕ) → i < length (stmt l r).math → member (token (stmt l r) i).bytes vs ≡ true
  pub differ :
      (i j : ℕ) → i < j → j < length (stmt l r).math → (token (stmt l r) i).bytes ≢ (token (stmt l r) j).bytes

-- the frame in hand and the active `$d`
pub record Active (t w : List ℕ) (n : ℕ) (l : List Statement) (vs : List (List ℕ)) (k m d : ℕ) : Type 0 where
  pub holds : Holds t w n l vs k
  pub mandatory : m ≤ k
  pub depth : d ≤ length l
  pub row : (j : ℕ) → j < d → Names l vs (get_or (stack w 11 d) j 0)

pub record CanPutDisjoint (w : List ℕ) (n at z m d : ℕ) : Type 0 where
  pub t : List ℕ
  pub l : List Statement
  pub vs : List (List ℕ)
  pub k : ℕ
  pub active : Active t w n l vs k m d
  pub few : k ≤ 4095
  pub least : m ≤ z
  pub most : z ≤ k
  pub place : at < 2 ^ 59
  -- no mark is left of an earlier statement
  pub marks : (a : ℕ) → a < length (atoms l) → word w (symbol_cell n a 6) ≡ 0

pub record PutsDisjoint (w v b c : List ℕ) (n at r z m d : ℕ) : Type 0 where
  pub words : v ≡ w
  pub few : r ≤ at + 134217728
  pub sim :
      (t : List ℕ) (l : List Statement) (vs : List (List ℕ)) (k : ℕ) → Active t w n l vs k m d → z ≤ k
      → Wrote b c at r (disjoint_bytes (take m vs) (take z vs) (map (names_at l) (stack w 11 d)))

-- ---- the same by the words alone
abbrev pub word_bytes : ℕ → ℕ → List Pair → List ℕ
word_bytes m v s = u32 (length (once m s)) ++ (gather pair_bytes (once m s) ++ gather row_bytes (square s v))
