-- Scope rules: what statements have recorded, each with its end, and what of it is active at an offset.
-- A declaration is active at a later statement when its end is none or above that statement's offset.
use Rattle.std.specs.Prelude.{Bool, false, List, [], ◌++◌, ℕ, ltb}
use Rattle.std.proofs.Math.Option.{Option, none, some}
use Rattle.paper.specs.Base.{choose, sameb, keep, latest}
use Rattle.paper.specs.Tokens.{Token}
use Rattle.paper.specs.Statements.{Statement}
use Rattle.paper.specs.Names.{Declared, global}

-- a recorded token of a nested `$v`
pub record Nested : Type 0 where
  pub name : List ℕ
  pub at : ℕ
  pub end : ℕ

-- a symbol of an accepted expression
pub data Symbol : Type 0 where
  con : List ℕ → Symbol
  var : List ℕ → Symbol

-- the math string of an accepted `$e`, `$a` or `$p`: its typecode and what follows
pub record Formula : Type 0 where
  pub typecode : List ℕ
  pub body : List Symbol

-- an accepted `$f` (offset, end, variable, typecode) or `$e` (offset, end, formula)
pub data Hyp : Type 0 where
  float : ℕ → ℕ → List ℕ → List ℕ → Hyp
  essential : ℕ → ℕ → Formula → Hyp

abbrev pub hyp_end : Hyp → ℕ
hyp_end (float o e v c) = e
hyp_end (essential o e f) = e

-- an accepted `$d`
pub record Disjoint : Type 0 where
  pub end : ℕ
  pub names : List (List ℕ)

-- what is recorded, each list in text order
pub record State : Type 0 where
  pub nested : List Nested
  pub hyps : List Hyp
  pub disjoints : List Disjoint

abbrev pub nothing : State
nothing = record { nested = []; hyps = []; disjoints = [] }

abbrev pub plus : State → State → State
plus x y =
    record {
      nested = x.nested ++ y.nested;
      hyps = x.hyps ++ y.hyps;
      disjoints = x.disjoints ++ y.disjoints;
    }

-- none is above every offset: a text has at most 16,777,216 bytes
abbrev pub active : ℕ → ℕ → Bool
active o e = ltb o e

abbrev pub active_nested : ℕ → Nested → Bool
active_nested o x = active o x.end

abbrev pub active_hyp : ℕ → Hyp → Bool
active_hyp o x = active o (hyp_end x)

abbrev pub active_disjoint : ℕ → Disjoint → Bool
active_disjoint o x = active o x.end

-- what of a state is active at offset o: all that a statement there sees of it
unfoldable pub view : State → ℕ → State
view x o =
    record {
      nested = keep (active_nested o) x.nested;
      hyps = keep (active_hyp o) x.hyps;
      disjoints = keep (active_disjoint o) x.disjoints;
    }

-- Below, every list is a view's.

abbrev pub nested_name : List ℕ → Nested → Bool
nested_name n x = sameb x.name n

-- the latest recorded nested `$v` token of a name
unfoldable pub nested_of : List Nested → List ℕ → Option Nested
nested_of l n = latest (nested_name n) l

abbrev pub float_name : List ℕ → Hyp → Bool
float_name n (float o e v c) = sameb v n
float_name n (essential o e f) = false

-- the `$f` of a variable
unfoldable pub float_of : List Hyp → List ℕ → Option Hyp
float_of l n = latest (float_name n) l

abbrev pub hyp_at : Hyp → ℕ
hyp_at (float o e v c) = o
hyp_at (essential o e f) = o

-- what a token is
pub data Sense : Type 0 where
  inactive constant variable : Sense

abbrev pub by_nested : Option Nested → Sense
by_nested none = inactive
by_nested (some x) = variable

abbrev pub by_global : Option Declared → ℕ → Sense → Sense
by_global none o r = r
by_global (some g) o r = choose (ltb g.at o) (choose g.constant constant variable) r

-- The global declaration of its name is active at tokens after it; otherwise the latest nested `$v` counts.
unfoldable pub sense : List Statement → State → Token → Sense
sense w v t = by_global (global w t.bytes) t.at (by_nested (nested_of v.nested t.bytes))
