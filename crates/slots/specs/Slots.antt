-- What the words of a name answer at an offset: the nested `$v` and the `$f` recorded last, and what it is; and that the
-- slots answer as the recorded lists do.
use Rattle.std.specs.Prelude.{◌≡◌, List, ℕ, ◌+◌, ◌-◌, ◌<◌, ◌≤◌, eqb, ltb, length, set, Some, None}
use Rattle.std.specs.Prelude as code
use Rattle.std.proofs.Math.Option.{Option, none, some}
use Rattle.paper.specs.Base.{choose, keep}
use Rattle.paper.specs.Tokens.{Token}
use Rattle.paper.specs.Statements.{Statement}
use Rattle.paper.specs.Names.{Declared, global}
use Rattle.paper.specs.State.{Nested, Hyp, float, State, active_nested, active_hyp, nested_of, float_of, view, Sense, inactive, constant, variable, sense}
use Rattle.paper.specs.Checks.{token}
use Rattle.paper.specs.declared.StatementRow.{StatementRow}
use Rattle.paper.specs.declared.TokenOffset.{TokenOffset}
use Rattle.area.specs.Cells.{statement_cell, symbol_cell, word}
use Rattle.reader.specs.Rows.{stmt}
use Rattle.nameck.specs.Atoms.{atoms, name_of}
use Rattle.nameck.specs.Named.{Named}
use Rattle.nameck.specs.declared.lookup.Global.{Global}
use Rattle.nameck.specs.declared.lookup.Global.TheVariants as g
use Rattle.slots.specs.declared.CheckedToken.{CheckedToken}
use Rattle.slots.specs.declared.CheckedToken.TheVariants as checked

-- ---- the nested `$v` recorded last, if it is active at p
unfoldable pub nested_slot : List ℕ → ℕ → ℕ → ℕ → code.Option TokenOffset
nested_slot w n a p =
    choose (ltb p (word w (symbol_cell n a 3))) (Some (record { 0 = word w (symbol_cell n a 2) })) None

abbrev pub nested_at : Option Nested → code.Option TokenOffset
nested_at none = None
nested_at (some x) = Some (record { 0 = x.at })

-- ---- the row of the `$f` recorded last, if it is active at p
unfoldable pub float_slot : List ℕ → ℕ → ℕ → ℕ → code.Option StatementRow
float_slot w n a p =
    choose (eqb (word w (symbol_cell n a 4)) 0) None
    (choose (ltb p (word w (statement_cell (word w (symbol_cell n a 4) - 1) 7)))
    (Some (record { 0 = word w (symbol_cell n a 4) - 1 })) None)

-- what an accepted `$f` records, by its row
unfoldable pub float_hyp : List Statement → ℕ → Hyp
float_hyp l r =
    float (stmt l r).at (stmt l r).end (token (stmt l r) 1).bytes (token (stmt l r) 0).bytes

abbrev pub float_at : List Statement → code.Option StatementRow → Option Hyp
float_at l (Some r) = some (float_hyp l r.0)
float_at l None = none

-- ---- what a name is, by its global declaration and its nested `$v`
abbrev pub sense_nested : code.Option TokenOffset → Sense
sense_nested (Some p) = variable
sense_nested None = inactive

abbrev pub sense_global : code.Option Global → ℕ → code.Option TokenOffset → Sense
sense_global (Some (g.Constant p)) o s = choose (ltb p.0 o) constant (sense_nested s)
sense_global (Some (g.Variable p)) o s = choose (ltb p.0 o) variable (sense_nested s)
sense_global None o s = sense_nested s

-- the code's word for it
abbrev pub checked_of : Sense → ℕ → CheckedToken
checked_of inactive a = checked.Inactive
checked_of constant a = checked.Constant (record { 0 = a })
checked_of variable a = checked.Variable (record { 0 = a })

-- ---- the words with a nested `$v` recorded, and with a `$f` recorded
unfoldable pub with_nested : List ℕ → ℕ → ℕ → ℕ → ℕ → List ℕ
with_nested w n a o e = set (set w (symbol_cell n a 2) o) (symbol_cell n a 3) e

unfoldable pub with_float : List ℕ → ℕ → ℕ → ℕ → List ℕ
with_float w n a r = set w (symbol_cell n a 4) (r + 1)

-- ---- from offset o on, the slots answer as the lists do
pub record Nests (w : List ℕ) (n : ℕ) (l : List Statement) (st : List Nested) (o : ℕ) : Type 0 where
  pub looks :
      (a p : ℕ) → a < length (atoms l) → o ≤ p
      → nested_slot w n a p ≡ nested_at (nested_of (keep (active_nested p) st) (name_of l a))

-- k statements are done
pub record Floats (w : List ℕ) (n : ℕ) (l : List Statement) (h : List Hyp) (k o : ℕ) : Type 0 where
  pub looks :
      (a p : ℕ) → a < length (atoms l) → o ≤ p
      → float_at l (float_slot w n a p) ≡ float_of (keep (active_hyp p) h) (name_of l a)
  pub rows : (a : ℕ) → a < length (atoms l) → word w (symbol_cell n a 4) ≤ k

-- ---- names and atoms: two atoms have two names, and each token has the name of its atom
pub record Atomic (l : List Statement) (a : ℕ) (x : List ℕ) : Type 0 where
  pub below : a < length (atoms l)
  pub name : name_of l a ≡ x

pub record Apart (l : List Statement) : Type 0 where
  pub apart : (a b : ℕ) → a < length (atoms l) → b < length (atoms l) → name_of l a ≡ name_of l b → a ≡ b

-- ---- what the token y of atom a is at a statement with offset o, if that serves as well as its own offset
pub record Sensed (w : List ℕ) (n a o : ℕ) (r : CheckedToken) : Type 0 where
  pub is :
      {t : List ℕ} {l : List Statement} (x : State) (y : Token) → Named t w n l → Nests w n l x.nested o
      → Atomic l a y.bytes → ((d : Declared) → global l y.bytes ≡ some d → ltb d.at y.at ≡ ltb d.at o)
      → r ≡ checked_of (sense l (view x o) y) a
