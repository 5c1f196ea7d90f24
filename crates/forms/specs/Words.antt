-- What the words say of a frame's parts: the bytes of a name, the symbols and the pool of a row, its fragments.
-- `t` is the text, `w` the words, `n` is N + 1; a row is a statement's.
use Rattle.std.specs.Prelude.{◌≡◌, ◌≢◌, List, [], ◌∷◌, ◌++◌, Option, Some, None, ℕ, zero, suc, ◌+◌, ◌-◌, ◌*◌, ◌<◌, ◌≤◌, eqb, length, get_or, take, drop}
use Rattle.paper.specs.Base.{choose, gather, table}
use Rattle.paper.specs.Statements.{none_end}
use Rattle.paper.specs.State.{Symbol, con, var}
use Rattle.paper.specs.Expressions.{constant_in, Fragment}
use Rattle.area.specs.Cells.{statement_cell, name_cell, bucket_cell, symbol_cell, math_cell, word}
use Rattle.sight.specs.Sums.{sum}
use Rattle.paper.specs.declared.StatementRow.{StatementRow}

-- the bytes of a name, from word 0 up to word 1
unfoldable pub name_bytes : List ℕ → List ℕ → ℕ → ℕ → List ℕ
name_bytes t w n a = take (word w (name_cell n a 1) - word w (name_cell n a 0)) (drop (word w (name_cell n a 0)) t)

-- the names of the first k variables
unfoldable pub names_of : List ℕ → List ℕ → ℕ → ℕ → List (List ℕ)
names_of t w n k = table (λ j. name_bytes t w n (word w (bucket_cell n j))) k

-- how a word says the row of a statement, or none: the row + 1, or 0
abbrev pub row_code : Option StatementRow → ℕ
row_code None = 0
row_code (Some r) = r.0 + 1

-- the atom of the i-th math token of a row
unfoldable pub atom_at : List ℕ → ℕ → ℕ → ℕ → ℕ
atom_at w n row i = word w (math_cell n (word w (statement_cell row 5) + i))

-- ---- the symbols of a row after the typecode, up to the i-th math token
abbrev pub symbol_by : ℕ → List ℕ → Symbol
symbol_by k x = choose (eqb k none_end) (con x) (var x)

unfoldable pub word_symbol : List ℕ → List ℕ → ℕ → ℕ → Symbol
word_symbol t w n a = symbol_by (word w (symbol_cell n a 5)) (name_bytes t w n a)

unfoldable pub body_of : List ℕ → List ℕ → ℕ → ℕ → ℕ → List Symbol
body_of t w n row i = table (λ j. word_symbol t w n (atom_at w n row (j + 1))) (i - 1)

-- the number of math tokens of a row
abbrev pub count_of : List ℕ → ℕ → ℕ
count_of w row = word w (statement_cell row 6)

-- the constants of a row, up to the i-th math token; and all of them
unfoldable pub constants_to : List ℕ → List ℕ → ℕ → ℕ → ℕ → List ℕ
constants_to t w n row i = gather constant_in (body_of t w n row i)

unfoldable pub constants_of : List ℕ → List ℕ → ℕ → ℕ → List ℕ
constants_of t w n row = constants_to t w n row (count_of w row)

-- how many bytes they are, without the text
unfoldable pub constant_size : List ℕ → ℕ → ℕ → ℕ
constant_size w n a =
    choose (eqb (word w (symbol_cell n a 5)) none_end) (word w (name_cell n a 1) - word w (name_cell n a 0)) 0

unfoldable pub sizes_to : List ℕ → ℕ → ℕ → ℕ → ℕ
sizes_to w n row i = sum (λ j. constant_size w n (atom_at w n row (j + 1))) (i - 1)

-- and how many variables stand there
abbrev pub variable_size : ℕ → ℕ
variable_size k = choose (eqb k none_end) 0 1

unfoldable pub variables_to : List ℕ → ℕ → ℕ → ℕ → ℕ
variables_to w n row i = sum (λ j. variable_size (word w (symbol_cell n (atom_at w n row (j + 1)) 5))) (i - 1)

-- the atoms of a row after the typecode
pub record Body (w : List ℕ) (n row : ℕ) (x : List ℕ) : Type 0 where
  pub size : length x ≡ count_of w row - 1
  pub atom : (j : ℕ) → j < length x → get_or x j 0 ≡ atom_at w n row (j + 1)

-- the atoms of the first k variables
pub record Buckets (w : List ℕ) (n k : ℕ) (x : List ℕ) : Type 0 where
  pub size : length x ≡ k
  pub atom : (j : ℕ) → j < length x → get_or x j 0 ≡ word w (bucket_cell n j)

-- ---- the rows of the active `$e`, k of them: the row of one, and the bytes of their constants
abbrev pub essential_row : List ℕ → ℕ → ℕ
essential_row w k = word w (statement_cell k 10)

unfoldable pub stack_constants : List ℕ → List ℕ → ℕ → ℕ → List ℕ
stack_constants t w n zero = []
stack_constants t w n (suc k) = stack_constants t w n k ++ constants_of t w n (essential_row w k)

unfoldable pub stack_size : List ℕ → ℕ → ℕ → ℕ
stack_size w n k = sum (λ j. sizes_to w n (essential_row w j) (count_of w (essential_row w j))) k

-- ---- fragments, the constants of the row standing in the pool from a on: where the one in hand starts after j symbols,
-- the one that the symbol after them ends, and those that j symbols end
unfoldable pub starts : List ℕ → ℕ → ℕ → ℕ → ℕ → ℕ
starts w n row a zero = a
starts w n row a (suc j) =
    choose (eqb (word w (symbol_cell n (atom_at w n row (j + 1)) 5)) none_end) (starts w n row a j)
    (a + sizes_to w n row (j + 1))

abbrev pub piece_by : ℕ → ℕ → ℕ → List Fragment
piece_by k a b = choose (eqb k none_end) [] (record { from = a; to = b; variable = k - 1 } ∷ [])

abbrev pub piece : List ℕ → ℕ → ℕ → ℕ → ℕ → List Fragment
piece w n row a j =
    piece_by (word w (symbol_cell n (atom_at w n row (j + 1)) 5)) (starts w n row a j) (a + sizes_to w n row (j + 1))

unfoldable pub pieces : List ℕ → ℕ → ℕ → ℕ → ℕ → List Fragment
pieces w n row a zero = []
pieces w n row a (suc j) = pieces w n row a j ++ piece w n row a j

-- ---- what makes it safe to read them
pub record NameWords (t w : List ℕ) (n a : ℕ) : Type 0 where
  pub room : 16 * n ≤ length w
  pub small : n ≤ 16777217
  pub row : a < n
  pub order : word w (name_cell n a 0) ≤ word w (name_cell n a 1)
  pub within : word w (name_cell n a 1) ≤ length t
  pub short : length t ≤ 16777216

-- a name whose last byte can be raised
abbrev pub Low : List ℕ → Type 0
Low x = get_or x (length x - 1) 0 < 128

pub record RowWords (t w : List ℕ) (n row : ℕ) : Type 0 where
  pub room : 16 * n ≤ length w
  pub small : n ≤ 16777217
  pub here : 3 * row + 3 ≤ n
  pub tokens : word w (statement_cell row 5) + word w (statement_cell row 6) < n
  pub some : 1 ≤ word w (statement_cell row 6)
  pub names : (i : ℕ) → i < word w (statement_cell row 6) → NameWords t w n (atom_at w n row i)
  pub low : (i : ℕ) → i < word w (statement_cell row 6) → Low (name_bytes t w n (atom_at w n row i))

-- the names of the first k variables
pub record VarWords (t w : List ℕ) (n k : ℕ) : Type 0 where
  pub room : 16 * n ≤ length w
  pub small : n ≤ 16777217
  pub few : k < n
  pub names : (j : ℕ) → j < k → NameWords t w n (word w (bucket_cell n j))

-- the first k rows of active `$e` have no math tokens at or after the c-th of the text
abbrev pub Before : List ℕ → ℕ → ℕ → Type 0
Before w k c =
    (j : ℕ) → j < k → word w (statement_cell (essential_row w j) 5) + word w (statement_cell (essential_row w j) 6) ≤ c

pub record StackWords (t w : List ℕ) (n es : ℕ) : Type 0 where
  pub room : 16 * n ≤ length w
  pub small : n ≤ 16777217
  pub depth : 3 * es < n
  pub rows : (k : ℕ) → k < es → RowWords t w n (essential_row w k)
  pub rises : (k : ℕ) → k < es → Before w k (word w (statement_cell (essential_row w k) 5))

-- for what reads words alone
pub record SomeName (w : List ℕ) (n a : ℕ) : Type 0 where
  pub t : List ℕ
  pub words : NameWords t w n a

pub record SomeRow (w : List ℕ) (n row : ℕ) : Type 0 where
  pub t : List ℕ
  pub words : RowWords t w n row

pub record SomeStack (w : List ℕ) (n es : ℕ) : Type 0 where
  pub t : List ℕ
  pub words : StackWords t w n es

-- every variable of the row has a number
pub record RowNumbers (w : List ℕ) (n row : ℕ) : Type 0 where
  pub some :
      (i : ℕ) → 0 < i → i < word w (statement_cell row 6)
      → word w (symbol_cell n (atom_at w n row i) 5) ≢ 0
