-- The marks of the `$d` in hand: word 6 of a name is 1 + the index of its first token in the `$d`, 0 if it has none.
-- Between statements every mark is 0.
use Rattle.std.specs.Prelude.{◌≡◌, ◌≢◌, List, [], ◌∷◌, ℕ, suc, ◌+◌, ◌-◌, ◌<◌, ◌≤◌, eqb, length, set, Option, Some, None}
use Rattle.paper.specs.Base.{choose, sameb}
use Rattle.paper.specs.Tokens.{Token}
use Rattle.paper.specs.Statements.{Statement}
use Rattle.paper.specs.Checks.{Diag, diag}
use Rattle.area.specs.Cells.{symbol_cell, math_cell, word}
use Rattle.nameck.specs.Atoms.{atoms, name_of}
use Rattle.paper.specs.declared.TokenIndex.{TokenIndex}
use Rattle.slots.specs.Kept.{Kept}

-- the index of the first token of a name among some, of which the first has index k
unfoldable pub first_in : List Token → List ℕ → ℕ → Option TokenIndex
first_in [] x k = None
first_in (t ∷ l) x k = let r = first_in l x (suc k) in choose (sameb t.bytes x) (Some (record { 0 = k })) r

unfoldable pub mark_slot : List ℕ → ℕ → ℕ → Option TokenIndex
mark_slot w n a = choose (eqb (word w (symbol_cell n a 6)) 0) None (Some (record { 0 = word w (symbol_cell n a 6) - 1 }))

-- the words with a mark, if there was none
abbrev pub marked_by : Option TokenIndex → List ℕ → ℕ → ℕ → ℕ → List ℕ
marked_by (Some j) w n a i = w
marked_by None w n a i = set w (symbol_cell n a 6) (i + 1)

-- the diagnostic of a variable in a `$d`, by the first token of its name before it
abbrev pub repeat_diags : Option TokenIndex → ℕ → ℕ → List Diag
repeat_diags (Some j) s i = diag 8 s i j.0
repeat_diags None s i = []

-- the marks are those of the tokens d
pub record Marks (w : List ℕ) (n : ℕ) (l : List Statement) (d : List Token) : Type 0 where
  pub sees : (a : ℕ) → a < length (atoms l) → mark_slot w n a ≡ first_in d (name_of l a) 0

-- ---- the rows of the math column from f on, c of them, of which each holds an atom below n
pub record Atoms (w : List ℕ) (n f c : ℕ) : Type 0 where
  pub rows : f + c ≤ n
  pub atom : (j : ℕ) → j < c → word w (math_cell n (f + j)) < n

-- an atom that none of the rows from the i-th on has is not marked
abbrev pub Left : List ℕ → List ℕ → ℕ → ℕ → ℕ → ℕ → ℕ → Type 0
Left w v n f c m i =
    (a : ℕ) → a < m → ((j : ℕ) → i ≤ j → j < c → word w (math_cell n (f + j)) ≢ a) → word v (symbol_cell n a 6) ≡ 0

-- the marks of the rows are taken away: if no other of the first m atoms was marked, none is
pub record Forgot (w v : List ℕ) (n f c : ℕ) : Type 0 where
  pub kept : Kept n 12 12 6 7 w v
  pub clean : (m : ℕ) → m ≤ n → Left w w n f c m 0 → (a : ℕ) → a < m → word v (symbol_cell n a 6) ≡ 0
