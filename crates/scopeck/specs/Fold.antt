-- The fold over all statements: what it asks of the words, and what the words and the diagnostics are afterwards.
-- `l` is the statements of the text t; a promise is for every l that the words stand for.
use Rattle.std.specs.Prelude.{◌≡◌, List, [], ℕ, ◌+◌, ◌<◌, ◌≤◌, eqb, length}
use Rattle.paper.specs.Base.{choose, gather}
use Rattle.paper.specs.Statements.{Statement}
use Rattle.paper.specs.Give.{all_given}
use Rattle.paper.specs.Records.{diag_record, diag_stream}
use Rattle.area.specs.Cells.{statement_cell, symbol_cell, word}
use Rattle.reader.specs.Rows.{stmt}
use Rattle.facts.specs.Facts.{Facts}
use Rattle.facts.specs.States.{given_at}
use Rattle.history.specs.Accepted.{accepted}
use Rattle.nameck.specs.Atoms.{atoms}
use Rattle.nameck.specs.Named.{Named}
use Rattle.stream.specs.Wrote.{Wrote}
use Rattle.slots.specs.Kept.{Room, Kept}
use Rattle.slots.specs.Slots.{Nests, Floats}
use Rattle.slots.specs.Marks.{Marks}
use Rattle.scopeck.specs.declared.Scope.{Scope}
use Rattle.scopeck.specs.Scope.{Stands, Ready, Given}

-- ---- a statement of any kind, for the text
pub record SomeText (t w : List ℕ) (n : ℕ) (st : Scope) (k : ℕ) : Type 0 where
  pub of : List Statement
  pub holds : Ready t w n of st k

pub record GivesText (t w v out out' : List ℕ) (n : ℕ) (st st' : Scope) (k : ℕ) : Type 0 where
  pub sim : {l : List Statement} → Ready t w n l st k → Given w v out out' n l st st' k

-- ---- which statements are accepted, in word 8 of their rows
abbrev pub accept_word : ℕ → ℕ → ℕ
accept_word p q = choose (eqb p q) 1 0

abbrev pub Marked : List ℕ → List Statement → ℕ → Type 0
Marked w l k = (s : ℕ) → s < k → word w (statement_cell s 8) ≡ choose (accepted l s) 1 0

-- ---- k statements are done, up to the offset `from`
pub record Before (t w : List ℕ) (n : ℕ) (l : List Statement) (st : Scope) (k : ℕ) : Type 0 where
  pub named : Named t w n l
  pub facts : Facts t l
  pub room : Room w n
  pub inside : k < length l
  pub from : ℕ
  pub past : from ≤ (stmt l k).at
  pub stands : Stands w n l st k from
  pub marked : Marked w l k

pub record SomeBefore (t w : List ℕ) (n : ℕ) (st : Scope) (k : ℕ) : Type 0 where
  pub of : List Statement
  pub holds : Before t w n of st k

pub record After (w v out out' : List ℕ) (n : ℕ) (l : List Statement) (st st' : Scope) (k : ℕ) : Type 0 where
  pub stands : Stands v n l st' (k + 1) (stmt l k).at
  pub marked : Marked v l (k + 1)
  pub told : Wrote out out' st.diags st'.diags (gather diag_record (given_at l k).diags)

pub record Steps (t w v out out' : List ℕ) (n : ℕ) (st st' : Scope) (k : ℕ) : Type 0 where
  pub kept : Kept n 8 12 2 7 w v
  pub numbers : (a : ℕ) → a < n → word v (symbol_cell n a 5) ≡ word w (symbol_cell n a 5)
  pub sim : {l : List Statement} → Before t w n l st k → After w v out out' n l st st' k

-- ---- what is recorded for the names is taken away: the end of the nested `$v`, and the `$f`
pub record Forgotten (w v : List ℕ) (n m : ℕ) : Type 0 where
  pub kept : Kept n 12 12 3 5 w v
  pub ends : (a : ℕ) → a < m → word v (symbol_cell n a 3) ≡ 0
  pub floats : (a : ℕ) → a < m → word v (symbol_cell n a 4) ≡ 0

-- ---- all statements
pub record Blank (t w : List ℕ) (n rows : ℕ) (l : List Statement) : Type 0 where
  pub named : Named t w n l
  pub facts : Facts t l
  pub room : Room w n
  pub count : rows ≡ length l
  pub nests : Nests w n l [] 0
  pub floats : Floats w n l [] 0 0
  pub marks : Marks w n l []

pub record SomeBlank (t w : List ℕ) (n rows : ℕ) : Type 0 where
  pub of : List Statement
  pub holds : Blank t w n rows of

-- what is asked at the start of each pass: named words, without a mark
pub record Whole (t w : List ℕ) (n rows names : ℕ) (l : List Statement) : Type 0 where
  pub named : Named t w n l
  pub facts : Facts t l
  pub room : Room w n
  pub count : rows ≡ length l
  pub atoms_are : names ≡ length (atoms l)
  pub marks : Marks w n l []

pub record SomeWhole (t w : List ℕ) (n rows names : ℕ) : Type 0 where
  pub of : List Statement
  pub holds : Whole t w n rows names of

-- the diagnostics are the definition's; each statement is marked by whether it is accepted; the words are named as before,
-- and no mark is left. The frames are further fields
pub record Checked (v out out' : List ℕ) (n : ℕ) (l : List Statement) (st : Scope) : Type 0 where
  pub diags : Wrote out out' 0 st.diags (diag_stream (all_given l))
  pub marked : Marked v l (length l)
  pub marks : Marks v n l []

pub record ChecksBlank (t w v out out' : List ℕ) (n rows : ℕ) (st : Scope) : Type 0 where
  pub kept : Kept n 8 12 2 7 w v
  pub sim : {l : List Statement} → Blank t w n rows l → Checked v out out' n l st

pub record ChecksAll (t w v out out' : List ℕ) (n rows names : ℕ) (st : Scope) : Type 0 where
  pub kept : Kept n 8 12 2 7 w v
  pub sim : {l : List Statement} → Whole t w n rows names l → Checked v out out' n l st
