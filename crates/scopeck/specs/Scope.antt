-- What the words stand for before and after a statement, and what the check of a statement promises.
-- `l` is the statements of the text t, `k` the row of the statement in hand, `st` the state of the fold.
use Rattle.std.specs.Prelude.{◌≡◌, List, [], ℕ, ◌+◌, ◌-◌, ◌*◌, ◌<◌, ◌≤◌, eqb, length, take, drop, Option, Some, None}
use Rattle.std.proofs.Math.Option as logic
use Rattle.paper.specs.Base.{choose, gather}
use Rattle.paper.specs.Tokens.{Token}
use Rattle.paper.specs.Statements.{Statement}
use Rattle.paper.specs.Names.{owner}
use Rattle.paper.specs.declared.Atom.{Atom}
use Rattle.paper.specs.Records.{diag_record}
use Rattle.area.specs.Cells.{statement_cell, symbol_cell, word}
use Rattle.reader.specs.Rows.{stmt}
use Rattle.facts.specs.Facts.{Facts}
use Rattle.facts.specs.States.{state_at, given_at}
use Rattle.history.specs.Accepted.{is_essential, is_disjoint, rows_of}
use Rattle.nameck.specs.Atoms.{atoms, name_of}
use Rattle.nameck.specs.Named.{Named}
use Rattle.stream.specs.Wrote.{Wrote}
use Rattle.slots.specs.Kept.{Room, Kept}
use Rattle.slots.specs.Slots.{Nests, Floats}
use Rattle.slots.specs.Marks.{Marks}
use Rattle.slots.specs.Stack.{Stack}
use Rattle.scopeck.specs.declared.Scope.{Scope}
use Rattle.scopeck.specs.declared.Row.{Row}

-- ---- the words of a statement's row
abbrev pub row_of : List ℕ → ℕ → Row
row_of w k =
    record {
      at = record { 0 = word w (statement_cell k 1) };
      label = record { 0 = word w (statement_cell k 2) };
      from = word w (statement_cell k 3);
      end = word w (statement_cell k 7);
      first = word w (statement_cell k 5);
      count = word w (statement_cell k 6);
    }

-- its math string in the text
unfoldable pub part_of : List ℕ → List ℕ → ℕ → List ℕ
part_of t w k =
    take (word w (statement_cell k 4) - word w (statement_cell k 3)) (drop (word w (statement_cell k 3)) t)

-- some statement bears the label a
pub record Borne (w : List ℕ) (n a : ℕ) : Type 0 where
  pub text : List ℕ
  pub of : List Statement
  pub named : Named text w n of
  pub below : a < length (atoms of)
  pub first : Token
  pub owned : owner of (name_of of a) ≡ logic.some first

-- whether a statement at s owns its label a, whose first bearer is at o
abbrev pub own_by : ℕ → ℕ → ℕ → Option Atom
own_by o s a = choose (eqb o s) (Some (record { 0 = a })) None

pub record Owns (w : List ℕ) (n a s : ℕ) (r : Option Atom) : Type 0 where
  pub is :
      {t : List ℕ} {l : List Statement} (x : Token) → Named t w n l → a < length (atoms l)
      → owner l (name_of l a) ≡ logic.some x → r ≡ own_by x.at s a

-- the state with another place in the diagnostics, and with one more `$e` or `$d`
abbrev pub moved : Scope → ℕ → Scope
moved st p = record { es = st.es; ds = st.ds; diags = p }

abbrev pub with_essential : Scope → ℕ → Scope
with_essential st p = record { es = st.es + 1; ds = st.ds; diags = p }

abbrev pub with_disjoint : Scope → ℕ → Scope
with_disjoint st p = record { es = st.es; ds = st.ds + 1; diags = p }

-- ---- k statements are done: from offset o on the words stand for what they recorded
pub record Stands (w : List ℕ) (n : ℕ) (l : List Statement) (st : Scope) (k o : ℕ) : Type 0 where
  pub nests : Nests w n l (state_at l k).nested o
  pub floats : Floats w n l (state_at l k).hyps k o
  pub marks : Marks w n l []
  pub ess : Stack w 10 l (rows_of is_essential l k) st.es k o
  pub dis : Stack w 11 l (rows_of is_disjoint l k) st.ds k o
  pub essentials : st.es ≤ k
  pub disjoints : st.ds ≤ k
  pub place : st.diags ≤ 604000000 * k

pub record Ready (t w : List ℕ) (n : ℕ) (l : List Statement) (st : Scope) (k : ℕ) : Type 0 where
  pub named : Named t w n l
  pub facts : Facts t l
  pub room : Room w n
  pub inside : k < length l
  pub stands : Stands w n l st k (stmt l k).at

pub record Given (w v out out' : List ℕ) (n : ℕ) (l : List Statement) (st st' : Scope) (k : ℕ) : Type 0 where
  pub kept : Kept n 10 12 2 7 w v
  -- the numbers of a frame's variables are left alone
  pub numbers : (a : ℕ) → a < n → word v (symbol_cell n a 5) ≡ word w (symbol_cell n a 5)
  pub stands : Stands v n l st' (k + 1) (stmt l k).at
  pub told : Wrote out out' st.diags st'.diags (gather diag_record (given_at l k).diags)

-- ---- asked of some text of which q is the statement's part, promised for all
pub record SomePart (w q : List ℕ) (n : ℕ) (st : Scope) (k : ℕ) : Type 0 where
  pub text : List ℕ
  pub of : List Statement
  pub holds : Ready text w n of st k
  pub part : q ≡ part_of text w k

pub record GivesPart (w v q out out' : List ℕ) (n : ℕ) (st st' : Scope) (k : ℕ) : Type 0 where
  pub sim :
      {t : List ℕ} {l : List Statement} → Ready t w n l st k → q ≡ part_of t w k → Given w v out out' n l st st' k
