-- Scope rules: what depends on the whole text. The first bearer in the text owns a label; the first outermost `$c`
-- or `$v` token of a name is its global declaration.
use Rattle.std.specs.Prelude.{Bool, true, false, List, [], ◌∷◌, map, ℕ}
use Rattle.std.proofs.Math.Option.{Option}
use Rattle.paper.specs.Base.{choose, sameb, find, gather}
use Rattle.paper.specs.Tokens.{Token}
use Rattle.paper.specs.Statements.{Kind, $c, $v, $d, $f, $e, $a, $p, labelled, Statement, outermost}

abbrev pub named : List ℕ → Token → Bool
named n t = sameb t.bytes n

-- the label of a statement, as a token, if it bears one
abbrev pub bearer : Statement → List Token
bearer s = choose (labelled s.kind) (record { at = s.at; bytes = s.label } ∷ []) []

unfoldable pub labels : List Statement → List Token
labels l = gather bearer l

-- the label token of the first bearer
unfoldable pub owner : List Statement → List ℕ → Option Token
owner l n = find (named n) (labels l)

-- a token of an outermost `$c` or `$v`
pub record Declared : Type 0 where
  pub name : List ℕ
  pub at : ℕ
  pub constant : Bool

abbrev pub declares : Bool → Token → Declared
declares c t = record { name = t.bytes; at = t.at; constant = c }

abbrev pub declared_by : Kind → List Token → List Declared
declared_by $c m = map (declares true) m
declared_by $v m = map (declares false) m
declared_by $d m = []
declared_by $f m = []
declared_by $e m = []
declared_by $a m = []
declared_by $p m = []

abbrev pub declarations : Statement → List Declared
declarations s = choose (outermost s) (declared_by s.kind s.math) []

unfoldable pub declared : List Statement → List Declared
declared l = gather declarations l

abbrev pub declares_name : List ℕ → Declared → Bool
declares_name n d = sameb d.name n

unfoldable pub global : List Statement → List ℕ → Option Declared
global l n = find (declares_name n) (declared l)
