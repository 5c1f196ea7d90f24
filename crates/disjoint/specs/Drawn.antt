-- Pairs and rows as they are drawn: the pairs found so far are written in their room, and their bits set in the rows.
-- `s` are all pairs, in the order in which they are found; bit j of row i says whether i and j are a pair.
use Rattle.std.specs.Prelude.{◌≡◌, Bool, true, List, [], ◌++◌, map, ℕ, ◌+◌, ◌*◌, ◌/◌, ◌<◌, ◌≤◌, ◌^◌, eqb, length, get_or, drop}
use Rattle.paper.specs.Base.{and, not, all, keep, gather, table}
use Rattle.paper.specs.Pairs.{Pair, pair, pairs_in, new_pairs}
use Rattle.paper.specs.Records.{pair_bytes, row_bytes}
use Rattle.stream.specs.Wrote.{Wrote}
use Rattle.disjoint.specs.declared.draw.Grid.{Grid}
use Rattle.disjoint.specs.Found.{both, distinct, meets}
use Rattle.disjoint.specs.Words.{numbers, listed, count_of, CanWalk, CanCount}

-- the mandatory pairs, each once
unfoldable pub once : ℕ → List Pair → List Pair
once m s = keep (both m) (new_pairs s [])

-- bit j of row i, and all the rows of v variables
abbrev pub bit_of : List Pair → ℕ → ℕ → Bool
bit_of s i j = and (not (eqb i j)) (meets s i j)

abbrev pub square_of : (ℕ → ℕ → Bool) → ℕ → List (List Bool)
square_of f v = table (λ i. table (f i) v) v

unfoldable pub square : List Pair → ℕ → List (List Bool)
square s v = square_of (bit_of s) v

-- the buffer a became b; the pairs of s are drawn but for the last ones, `rest`. Pairs are written from `from` up to `at`. There
-- are rows for the first v variables only; a pair beyond them leaves nothing
pub record Drawing (a b : List ℕ) (from at v : ℕ) (g : Grid) (s rest : List Pair) : Type 0 where
  pub done : List Pair
  pub sum : done ++ rest ≡ s
  pub mid : List ℕ
  pub pairs : Wrote a mid from at (gather pair_bytes (once g.mandatory done))
  pub rows : Wrote mid b g.at (g.at + v * g.width) (gather row_bytes (square done v))
  pub fits : g.at + v * g.width ≤ length a
  pub width : g.width ≡ (v + 7) / 8
  pub size : g.size ≡ v
  pub mandatory : g.mandatory ≤ v
  pub few : v ≤ 4095
  pub place : g.at < 2 ^ 60
  pub room : from + 4 * length (once g.mandatory s) ≤ g.at
  pub distinct_pairs : all distinct s ≡ true

-- the pairs l are next
pub record CanDraw (b : List ℕ) (g : Grid) (at : ℕ) (l : List Pair) : Type 0 where
  pub a : List ℕ
  pub from : ℕ
  pub v : ℕ
  pub s : List Pair
  pub rest : List Pair
  pub drawing : Drawing a b from at v g s (l ++ rest)

-- wherever the pairs l were next, the last r of them still are
pub record Drew (b c : List ℕ) (g : Grid) (p q : ℕ) (l r : List Pair) : Type 0 where
  pub len : length c ≡ length b
  pub sim :
      (a : List ℕ) (from v : ℕ) (s rest : List Pair) → Drawing a b from p v g s (l ++ rest)
      → Drawing a c from q v g s (r ++ rest)

-- ---- the pairs of the i-th number with those right of it
abbrev pub pairs_at : List ℕ → ℕ → List Pair
pairs_at l i = map (pair (get_or l i 0)) (drop (i + 1) l)

pub record CanDrawAt (w b : List ℕ) (n row i : ℕ) (g : Grid) (at : ℕ) : Type 0 where
  pub walk : CanWalk w n 0 row
  pub here : i < count_of w row
  pub draw : CanDraw b g at (pairs_at (numbers w n row) i)

-- ---- the pairs of one row, and of the rows on the stack
pub record CanDrawRow (w b : List ℕ) (n row : ℕ) (g : Grid) (at : ℕ) : Type 0 where
  pub walk : CanWalk w n 0 row
  pub draw : CanDraw b g at (pairs_in (numbers w n row))

pub record CanDrawAll (w b : List ℕ) (n d : ℕ) (g : Grid) (at : ℕ) : Type 0 where
  pub walk : CanCount w n 0 d
  pub draw : CanDraw b g at (listed w n d)
