-- The names in the rows of the work area, and what one step of naming does with them.
-- `t` is the text, `w` the words, `n` is N + 1.
use Rattle.std.specs.Prelude.{◌≡◌, ◌≢◌, List, [], ◌∷◌, ◌++◌, ℕ, zero, suc, ◌+◌, ◌-◌, ◌*◌, ◌<◌, ◌≤◌, eqb, length, take, drop, set, Option, Some, None, Result, MatchResult}
use Rattle.paper.specs.Base.{choose}
use Rattle.paper.specs.Variables.{member, see, index}
use Rattle.area.specs.Cells.{name_cell, symbol_cell, word, Only, Cleared}
use Rattle.nameck.specs.declared.naming.Sort.{Sort}
use Rattle.nameck.specs.declared.naming.Sort.TheVariants.{Constant, Variable}
use Rattle.nameck.specs.Links.{Linked, Ended}

-- the name in the a-th row, and the first m names
unfoldable pub name_at : List ℕ → List ℕ → ℕ → ℕ → List ℕ
name_at t w n a = take (word w (name_cell n a 1) - word w (name_cell n a 0)) (drop (word w (name_cell n a 0)) t)

unfoldable pub names_of : List ℕ → List ℕ → ℕ → ℕ → List (List ℕ)
names_of t w n zero = []
names_of t w n (suc m) = names_of t w n m ++ (name_at t w n m ∷ [])

-- the place of a name among others, if it is there
unfoldable pub found : List (List ℕ) → List ℕ → Option ℕ
found l x = choose (member x l) (Some (index l x)) None

-- the first m rows lie in the work area and hold parts of the text
pub record Spans (t w : List ℕ) (n m : ℕ) : Type 0 where
  pub room : 16 * n ≤ length w
  pub small : n ≤ 16777217
  pub short : length t ≤ 16777216
  pub rows : m ≤ n
  pub start_stop : (a : ℕ) → a < m → word w (name_cell n a 0) ≤ word w (name_cell n a 1)
  pub within : (a : ℕ) → a < m → word w (name_cell n a 1) ≤ length t

-- the answer of a search for a name among the first m: its row, or else the cell of the empty link where the search ends
abbrev pub Finds : List ℕ → List ℕ → ℕ → ℕ → List ℕ → Result ℕ ℕ → Type 0
Finds t w n m x r =
    MatchResult r (λ row. found (names_of t w n m) x ≡ Some row)
    (λ cell. (found (names_of t w n m) x ≡ None) × Ended w n x cell)

-- a row for a new name, from which no link leads
unfoldable pub with_name : List ℕ → ℕ → ℕ → ℕ → ℕ → List ℕ
with_name w n m start stop = set (set (set w (name_cell n m 0) start) (name_cell n m 1) stop) (name_cell n m 2) 0

-- the row is made, and the words of its symbol are 0
pub record Adds (w v : List ℕ) (n m start stop : ℕ) : Type 0 where
  pub cleared : Cleared (symbol_cell n m 0) (symbol_cell n m 7) (with_name w n m start stop) v

-- a name looked for, and added if it is new. Only the blocks of names and buckets change, word 2 of the symbols, and the
-- words of a new name, which are 0
pub record CanIntern (t w : List ℕ) (n m start stop : ℕ) : Type 0 where
  pub spans : Spans t w n m
  pub linked : Linked w n m (name_at t w n)
  pub free : m < n
  pub order : start ≤ stop
  pub fits : stop ≤ length t

pub record Interns (t w v : List ℕ) (n m start stop atom k : ℕ) : Type 0 where
  pub only : Only (4 * n) (15 * n) w v
  pub symbols : (a c : ℕ) → a < m → c < 7 → c ≢ 2 → word v (symbol_cell n a c) ≡ word w (symbol_cell n a c)
  pub blank : (a c : ℕ) → m ≤ a → a < k → c < 7 → c ≢ 2 → word v (symbol_cell n a c) ≡ 0
  pub linked : Linked v n k (name_at t v n)
  pub names : names_of t v n k ≡ see (names_of t w n m) (take (stop - start) (drop start t))
  pub atom_is : atom ≡ index (names_of t v n k) (take (stop - start) (drop start t))
  pub start_stop : (a : ℕ) → a < k → word v (name_cell n a 0) ≤ word v (name_cell n a 1)
  pub within : (a : ℕ) → a < k → word v (name_cell n a 1) ≤ length t

-- a word that is written only once
unfoldable pub noted : List ℕ → ℕ → ℕ → List ℕ
noted w i x = choose (eqb (word w i) 0) (set w i x) w

-- a global declaration of the atom a, by a token at this offset, if its statement declares
abbrev pub sort_number : Sort → ℕ
sort_number Constant = 1
sort_number Variable = 2

unfoldable pub globally : Option Sort → List ℕ → ℕ → ℕ → ℕ → List ℕ
globally None w n a at = w
globally (Some k) w n a at = noted w (symbol_cell n a 1) (2 * at + sort_number k)
