-- Scope rules: the formula of an expression, and variables by first sight.
-- Variables are numbered by first sight through the active accepted `$e` in text order, then the assertion; these M are
-- mandatory.
use Rattle.std.specs.Prelude.{Bool, List, [], ◌∷◌, ◌++◌, map, ℕ, suc, drop}
use Rattle.paper.specs.Base.{choose, sameb, any, gather}
use Rattle.paper.specs.Tokens.{Token}
use Rattle.paper.specs.Statements.{Statement}
use Rattle.paper.specs.State.{Symbol, con, var, Formula, Hyp, float, essential, State, Sense, inactive, constant, variable, sense}
use Rattle.paper.specs.Checks.{token}

-- ---- formulas
abbrev pub symbol_of : Sense → List ℕ → Symbol
symbol_of inactive n = con n
symbol_of constant n = con n
symbol_of variable n = var n

abbrev pub symbol : List Statement → State → Token → Symbol
symbol w v t = symbol_of (sense w v t) t.bytes

unfoldable pub formula : List Statement → State → Statement → Formula
formula w v s = record { typecode = (token s 0).bytes; body = map (symbol w v) (drop 1 s.math) }

-- ---- variables by first sight
abbrev pub member : List ℕ → List (List ℕ) → Bool
member n l = any (sameb n) l

abbrev pub see : List (List ℕ) → List ℕ → List (List ℕ)
see l n = choose (member n l) l (l ++ (n ∷ []))

-- the names l, and then each further one that is new
unfoldable pub sights : List (List ℕ) → List (List ℕ) → List (List ℕ)
sights [] l = l
sights (n ∷ m) l = sights m (see l n)

abbrev pub variable_in : Symbol → List (List ℕ)
variable_in (con n) = []
variable_in (var n) = n ∷ []

unfoldable pub variables_of : Formula → List (List ℕ)
variables_of f = gather variable_in f.body

abbrev pub formula_in : Hyp → List Formula
formula_in (float o e v c) = []
formula_in (essential o e f) = f ∷ []

unfoldable pub index : List (List ℕ) → List ℕ → ℕ
index [] n = 0
index (m ∷ l) n = let r = suc (index l n) in choose (sameb m n) 0 r

-- the mandatory variables of the formula f under the hypotheses h
unfoldable pub mandatory : List Hyp → Formula → List (List ℕ)
mandatory h f = sights (gather variables_of (gather formula_in h ++ (f ∷ []))) []
