-- The answers of the look-ups, by what the definitions find.
-- An answer has numbers only: the offset of a statement, or of the declaring token.
use Rattle.std.specs.Prelude.{◌≡◌, List, ℕ, ◌*◌, ◌<◌, ◌≤◌, length, Some, None}
use Rattle.std.specs.Prelude as code
use Rattle.std.proofs.Math.Option.{Option, none, some}
use Rattle.paper.specs.Base.{choose}
use Rattle.paper.specs.Tokens.{Token}
use Rattle.paper.specs.Statements.{Statement}
use Rattle.paper.specs.Names.{owner, Declared, global}
use Rattle.nameck.specs.Atoms.{atoms, name_of}
use Rattle.nameck.specs.Named.{Named}
use Rattle.paper.specs.declared.StatementOffset.{StatementOffset}
use Rattle.nameck.specs.declared.lookup.Global.{Global}
use Rattle.nameck.specs.declared.lookup.Global.TheVariants as g

-- the answers are values of the code's `Option`, and what the definitions find are values of the logic's
abbrev pub owner_answer : Option Token → code.Option StatementOffset
owner_answer none = None
owner_answer (some x) = Some (record { 0 = x.at })

abbrev pub global_answer : Option Declared → code.Option Global
global_answer none = None
global_answer (some d) =
    Some (choose d.constant (g.Constant (record { 0 = d.at })) (g.Variable (record { 0 = d.at })))

-- the symbol's row lies in the work area
pub record HasSymbol (w : List ℕ) (n a : ℕ) : Type 0 where
  pub room : 16 * n ≤ length w
  pub small : n < 4294967296
  pub row : a < n

-- what a look-up of the atom a promises, for every text and all statements that the words name
pub record Owned (w : List ℕ) (n a : ℕ) (r : code.Option StatementOffset) : Type 0 where
  pub is : {t : List ℕ} {l : List Statement} → Named t w n l → a < length (atoms l) → r ≡ owner_answer (owner l (name_of l a))

pub record DeclaredBy (w : List ℕ) (n a : ℕ) (r : code.Option Global) : Type 0 where
  pub is : {t : List ℕ} {l : List Statement} → Named t w n l → a < length (atoms l) → r ≡ global_answer (global l (name_of l a))
