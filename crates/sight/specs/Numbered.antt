-- The variables of the frame in hand: the list `vs` of names, by first sight, as the words hold it.
-- Bucket k holds the atom of the k-th; word 5 of a symbol holds its number + 1, no end for a constant, else 0.
use Rattle.std.specs.Prelude.{◌≡◌, true, false, List, [], ◌∷◌, ℕ, ◌+◌, ◌%◌, ◌<◌, ◌≤◌, eqb, length, get_or, drop, set}
use Rattle.paper.specs.Base.{choose}
use Rattle.paper.specs.Tokens.{Token}
use Rattle.paper.specs.Statements.{Statement, none_end}
use Rattle.paper.specs.Variables.{member, see, index}
use Rattle.area.specs.Cells.{bucket_cell, symbol_cell, word}
use Rattle.reader.specs.Rows.{stmt}
use Rattle.nameck.specs.Atoms.{atoms, atom_of, name_of}
use Rattle.nameck.specs.Named.{Named, Fresh}
use Rattle.sight.specs.Sums.{sum, one}
use Rattle.sight.specs.Static.{constant_name, stack}

-- the number word of a name
unfoldable pub number_word : List Statement → List (List ℕ) → List ℕ → ℕ
number_word l vs x = choose (constant_name l x) none_end (choose (member x vs) (index vs x + 1) 0)

-- the k-th variable x
pub record Entry (w : List ℕ) (n : ℕ) (l : List Statement) (k : ℕ) (x : List ℕ) : Type 0 where
  pub occurs : member x (atoms l) ≡ true
  pub variable : constant_name l x ≡ false
  pub bucket : word w (bucket_cell n k) ≡ atom_of l x

pub record Numbered (w : List ℕ) (n : ℕ) (l : List Statement) (vs : List (List ℕ)) : Type 0 where
  pub entry : (k : ℕ) → k < length vs → Entry w n l k (get_or vs k [])
  pub place : (k : ℕ) → k < length vs → index vs (get_or vs k []) ≡ k
  pub number : (a : ℕ) → a < length (atoms l) → word w (symbol_cell n a 5) ≡ number_word l vs (name_of l a)
  pub counted : length vs ≡ sum (λ a. one (member (name_of l a) vs)) (length (atoms l))

-- only what a numbering may change differs: the bucket column and word 5 of the symbols
pub record Renumbered (n : ℕ) (w v : List ℕ) : Type 0 where
  pub len : length v ≡ length w
  pub low : (i : ℕ) → i < bucket_cell n 0 → word v i ≡ word w i
  pub symbols : (a c : ℕ) → a < n → c < 5 → word v (symbol_cell n a c) ≡ word w (symbol_cell n a c)
  pub marks : (a : ℕ) → a < n → word v (symbol_cell n a 6) ≡ word w (symbol_cell n a 6)
  pub high : (i : ℕ) → symbol_cell n n 0 ≤ i → word v i ≡ word w i

-- ---- one name, and the names of some tokens: constants are passed over
abbrev pub scan_name : List Statement → List (List ℕ) → List ℕ → List (List ℕ)
scan_name l vs x = choose (constant_name l x) vs (see vs x)

unfoldable pub scanned : List Statement → List Token → List (List ℕ) → List (List ℕ)
scanned l [] vs = vs
scanned l (t ∷ m) vs = scanned l m (scan_name l vs t.bytes)

-- the tokens, from the i-th on, of each of some rows
unfoldable pub scanned_rows : List Statement → ℕ → List ℕ → List (List ℕ) → List (List ℕ)
scanned_rows l i [] vs = vs
scanned_rows l i (r ∷ h) vs = scanned_rows l i h (scanned l (drop i (stmt l r).math) vs)

-- ---- the words with one more variable, of atom a
unfoldable pub with_number : List ℕ → ℕ → ℕ → ℕ → List ℕ
with_number w n a k = set (set w (bucket_cell n k) a) (symbol_cell n a 5) (k + 1)

abbrev pub seen_words : ℕ → List ℕ → ℕ → ℕ → ℕ → List ℕ
seen_words x w n a k = choose (eqb x 0) (with_number w n a k) w

abbrev pub seen_count : ℕ → ℕ → ℕ
seen_count x k = choose (eqb x 0) (k + 1) k

-- ---- what the walks ask and promise
-- a statement list and a list of variables that the words stand for, with so many variables
pub record Holds (t w : List ℕ) (n : ℕ) (l : List Statement) (vs : List (List ℕ)) (k : ℕ) : Type 0 where
  pub named : Named t w n l
  pub small : n ≤ 16777217
  pub numbered : Numbered w n l vs
  pub count : k ≡ length vs

pub record SomeHold (w : List ℕ) (n k : ℕ) : Type 0 where
  pub t : List ℕ
  pub l : List Statement
  pub vs : List (List ℕ)
  pub holds : Holds t w n l vs k

-- the tokens of a row, from the i-th on
pub record CanScan (w : List ℕ) (n k row i : ℕ) : Type 0 where
  pub some : SomeHold w n k
  pub here : row < length some.l
  pub first : i < 2

pub record Scans (w v : List ℕ) (n k r row i : ℕ) : Type 0 where
  pub kept : Renumbered n w v
  pub sim :
      (t : List ℕ) (l : List Statement) (vs : List (List ℕ)) → Holds t w n l vs k → row < length l
      → Holds t v n l (scanned l (drop i (stmt l row).math) vs) r

-- the tokens of the rows on a stack of d entries in word c
pub record CanScanAll (w : List ℕ) (n k c d i : ℕ) : Type 0 where
  pub some : SomeHold w n k
  pub rows : (j : ℕ) → j < d → get_or (stack w c d) j 0 < length some.l
  pub depth : d ≤ length some.l
  pub column : c < 12
  pub first : i < 2

pub record ScansAll (w v : List ℕ) (n k r c d i : ℕ) : Type 0 where
  pub kept : Renumbered n w v
  pub sim :
      (t : List ℕ) (l : List Statement) (vs : List (List ℕ)) → Holds t w n l vs k
      → ((j : ℕ) → j < d → get_or (stack w c d) j 0 < length l)
      → Holds t v n l (scanned_rows l i (stack w c d) vs) r

-- the numbers taken away
pub record Forgets (w v : List ℕ) (n k : ℕ) : Type 0 where
  pub kept : Renumbered n w v
  pub sim :
      (t : List ℕ) (l : List Statement) (vs : List (List ℕ)) → Holds t w n l vs k → Holds t v n l [] 0

-- the words once a name with this global word is looked at
abbrev pub constant_words : ℕ → List ℕ → ℕ → ℕ → List ℕ
constant_words g w n a = choose (eqb (g % 2) 1) (set w (symbol_cell n a 5) none_end) w

-- ---- the names of constants, once naming is done
pub record Unnumbered (t w : List ℕ) (n : ℕ) (l : List Statement) (k : ℕ) : Type 0 where
  pub named : Named t w n l
  pub fresh : Fresh w n l
  pub small : n ≤ 16777217
  pub count : k ≡ length (atoms l)

pub record SomeUnnumbered (w : List ℕ) (n k : ℕ) : Type 0 where
  pub t : List ℕ
  pub l : List Statement
  pub holds : Unnumbered t w n l k

pub record Presets (w v : List ℕ) (n k : ℕ) : Type 0 where
  pub kept : Renumbered n w v
  pub sim : (t : List ℕ) (l : List Statement) → Unnumbered t w n l k → Holds t v n l [] 0
