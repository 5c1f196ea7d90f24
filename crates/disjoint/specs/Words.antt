-- The numbers of the variables that a `$d` names, as the words hold them, and the pairs that they make.
-- `n` is N + 1; a row is a statement row; variable k has its atom in bucket k and k + 1 in word 5 of its symbol.
use Rattle.std.specs.Prelude.{◌≡◌, ◌≢◌, List, ℕ, ◌+◌, ◌-◌, ◌*◌, ◌<◌, ◌≤◌}
use Rattle.paper.specs.Base.{gather, table}
use Rattle.paper.specs.Pairs.{Pair, pairs_in}
use Rattle.area.specs.Cells.{statement_cell, bucket_cell, symbol_cell, math_cell, word}
use Rattle.sight.specs.Static.{stack}
use Rattle.slots.specs.Kept.{Room}

-- the atom of the t-th math token of the text, and the number word of that atom
unfoldable pub atom_at : List ℕ → ℕ → ℕ → ℕ
atom_at w n t = word w (math_cell n t)

unfoldable pub number_at : List ℕ → ℕ → ℕ → ℕ
number_at w n t = word w (symbol_cell n (atom_at w n t) 5)

-- where the math tokens of row r begin, and how many they are
abbrev pub first_of : List ℕ → ℕ → ℕ
first_of w r = word w (statement_cell r 5)

abbrev pub count_of : List ℕ → ℕ → ℕ
count_of w r = word w (statement_cell r 6)

-- the number of the i-th token of row r, and all of them
unfoldable pub number_of : List ℕ → ℕ → ℕ → ℕ → ℕ
number_of w n r i = number_at w n (first_of w r + i) - 1

unfoldable pub numbers : List ℕ → ℕ → ℕ → List ℕ
numbers w n r = table (number_of w n r) (count_of w r)

-- the pairs of the rows on the stack of d `$d`, in the order in which they are found
unfoldable pub listed : List ℕ → ℕ → ℕ → List Pair
listed w n d = gather (λ r. pairs_in (numbers w n r)) (stack w 11 d)

-- ---- what is asked of the words
-- the t-th math token has a number
pub record TokenNumbered (w : List ℕ) (n t : ℕ) : Type 0 where
  pub here : t < n
  pub atom : atom_at w n t < n
  pub some : 0 < number_at w n t

-- the tokens of row r have numbers below v, all different, and each has its atom in its bucket
pub record RowNumbered (w : List ℕ) (n v r : ℕ) : Type 0 where
  pub here : 3 * r + 3 ≤ n
  pub token : (i : ℕ) → i < count_of w r → TokenNumbered w n (first_of w r + i)
  pub below : (i : ℕ) → i < count_of w r → number_of w n r i < v
  pub back : (i : ℕ) → i < count_of w r → word w (bucket_cell n (number_of w n r i)) ≡ atom_at w n (first_of w r + i)
  pub differ : (i j : ℕ) → i < j → j < count_of w r → number_of w n r i ≢ number_of w n r j

-- v variables with their atoms in the buckets
pub record Buckets (w : List ℕ) (n v : ℕ) : Type 0 where
  pub room : Room w n
  pub few : v ≤ 4095
  pub most : v ≤ n
  pub atom : (k : ℕ) → k < v → word w (bucket_cell n k) < n
  pub number : (k : ℕ) → k < v → word w (symbol_cell n (word w (bucket_cell n k)) 5) ≡ k + 1

-- the rows on the stack of d `$d`
pub record Stacked (w : List ℕ) (n v d : ℕ) : Type 0 where
  pub buckets : Buckets w n v
  pub depth : 3 * d ≤ n
  pub row : (k : ℕ) → k < d → RowNumbered w n v (word w (statement_cell k 11))

-- what a walk over one row asks, and a walk over the stack, for m mandatory variables
pub record CanWalk (w : List ℕ) (n m r : ℕ) : Type 0 where
  pub v : ℕ
  pub buckets : Buckets w n v
  pub mandatory : m ≤ v
  pub row : RowNumbered w n v r

pub record CanCount (w : List ℕ) (n m d : ℕ) : Type 0 where
  pub v : ℕ
  pub stacked : Stacked w n v d
  pub mandatory : m ≤ v
