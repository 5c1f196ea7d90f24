-- Marks: word 6 of the symbols of the mandatory variables, marked with u + 1 in the turn of variable u.
-- In its turn, those of a higher number that a `$d` names together with it are marked and so counted once.
use Rattle.std.specs.Prelude.{◌≡◌, ◌≢◌, Bool, List, ℕ, ◌+◌, ◌*◌, ◌<◌, ◌≤◌, eqb, ltb, leb, length, set}
use Rattle.paper.specs.Base.{choose, and, or, not}
use Rattle.area.specs.Cells.{bucket_cell, symbol_cell, word}
use Rattle.sight.specs.Sums.{sum, one}
use Rattle.slots.specs.Kept.{Room}
use Rattle.disjoint.specs.Found.{has, partners}
use Rattle.disjoint.specs.Words.{atom_at, number_at, listed, TokenNumbered, Buckets, CanWalk, CanCount}

-- the mark of variable k, and whether it is that of turn u
abbrev pub mark_cell : List ℕ → ℕ → ℕ → ℕ
mark_cell w n k = symbol_cell n (word w (bucket_cell n k)) 6

unfoldable pub mark : List ℕ → ℕ → ℕ → ℕ
mark w n k = word w (mark_cell w n k)

abbrev pub marked : List ℕ → ℕ → ℕ → ℕ → Bool
marked w n u k = eqb (mark w n k) (u + 1)

-- how many of the m mandatory ones are marked in turn u
unfoldable pub tally : List ℕ → ℕ → ℕ → ℕ → ℕ
tally w n m u = sum (λ k. one (marked w n u k)) m

-- only the marks of the variables from c up to m may differ
pub record Remarked (n c m : ℕ) (w v : List ℕ) : Type 0 where
  pub len : length v ≡ length w
  pub same : (i : ℕ) → ((k : ℕ) → c ≤ k → k < m → i ≢ mark_cell w n k) → word v i ≡ word w i

-- in turn u, those with p are marked besides, and r of them were not marked before
pub record Marks (w v : List ℕ) (n m u : ℕ) (p : ℕ → Bool) (r : ℕ) : Type 0 where
  pub kept : Remarked n 0 m w v
  pub marks : (k : ℕ) → k < m → marked v n u k ≡ or (marked w n u k) (p k)
  pub count : r + tally w n m u ≡ tally v n m u
  pub low : (k b : ℕ) → k < m → u + 1 ≤ b → mark w n k ≤ b → mark v n k ≤ b

-- ---- one token
pub record CanMark (w : List ℕ) (n m t u : ℕ) : Type 0 where
  pub room : Room w n
  pub token : TokenNumbered w n t
  pub turn : u < 4095

-- whether the t-th math token is to be marked and counted
unfoldable pub fresh : List ℕ → ℕ → ℕ → ℕ → ℕ → Bool
fresh w n m t u =
    and (ltb (u + 1) (number_at w n t))
    (and (leb (number_at w n t) m) (not (eqb (word w (symbol_cell n (atom_at w n t) 6)) (u + 1))))

pub record MarksOne (w v : List ℕ) (n m t u r : ℕ) : Type 0 where
  pub words : v ≡ choose (fresh w n m t u) (set w (symbol_cell n (atom_at w n t) 6) (u + 1)) w
  pub count : r ≡ one (fresh w n m t u)

-- ---- the tokens of one row
pub record CanMarkRow (w : List ℕ) (n m r u : ℕ) : Type 0 where
  pub walk : CanWalk w n m r
  pub turn : u < m

abbrev pub above : List ℕ → ℕ → ℕ → Bool
above l u k = and (ltb u k) (has k l)

-- ---- the rows on the stack, in the turn of u
pub record CanCountOf (w : List ℕ) (n m d u : ℕ) : Type 0 where
  pub walk : CanCount w n m d
  pub turn : u < m
  pub marks : (k : ℕ) → k < m → mark w n k ≤ u

pub record CountsOf (w v : List ℕ) (n m d u r : ℕ) : Type 0 where
  pub kept : Remarked n 0 m w v
  pub marks : (k : ℕ) → k < m → mark v n k ≤ u + 1
  pub count : r ≡ partners (listed w n d) m u
  pub few : r ≤ m

-- ---- all turns
pub record CanCountAll (w : List ℕ) (n m d : ℕ) : Type 0 where
  pub walk : CanCount w n m d
  pub marks : (k : ℕ) → k < m → mark w n k ≡ 0

pub record CountsAll (w v : List ℕ) (n m d r : ℕ) : Type 0 where
  pub kept : Remarked n 0 m w v
  pub count : r ≡ sum (partners (listed w n d) m) m
  pub few : r ≤ 4095 * m

-- ---- the marks taken away
pub record CanClear (w : List ℕ) (n m : ℕ) : Type 0 where
  pub v : ℕ
  pub buckets : Buckets w n v
  pub mandatory : m ≤ v

-- what differed in these marks alone from words where all of them are 0 is these words again
pub record ClearsMarks (w v : List ℕ) (n m : ℕ) : Type 0 where
  pub back :
      (x : List ℕ) → ((k : ℕ) → k < m → mark x n k ≡ 0) → ((k : ℕ) → k < m → mark_cell x n k ≡ mark_cell w n k)
      → Remarked n 0 m x w → v ≡ x

pub record PairCount (w v : List ℕ) (n m d r : ℕ) : Type 0 where
  pub words : v ≡ w
  pub count : r ≡ sum (partners (listed w n d) m) m
  pub few : r ≤ 16769025
