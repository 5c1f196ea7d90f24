-- Diagnostics by what the look-ups found: what the code and the definitions have in common.
-- `s` is the statement's offset, `i` the token's index. What a look-up answers is a value of the code's `Option`.
use Rattle.std.specs.Prelude.{List, [], ℕ, eqb, ltb, Option, Some, None}
use Rattle.paper.specs.Base.{choose}
use Rattle.paper.specs.State.{Sense, inactive, constant, variable}
use Rattle.paper.specs.Checks.{Diag, diag, against, record_it}
use Rattle.paper.specs.Checks as paper
use Rattle.paper.specs.declared.StatementOffset.{StatementOffset}
use Rattle.paper.specs.declared.StatementRow.{StatementRow}
use Rattle.paper.specs.declared.TokenIndex.{TokenIndex}
use Rattle.paper.specs.declared.TokenOffset.{TokenOffset}
use Rattle.nameck.specs.declared.lookup.Global.{Global}
use Rattle.nameck.specs.declared.lookup.Global.TheVariants as global
use Rattle.slots.specs.Marks.{repeat_diags}
use Rattle.slots.specs.declared.CheckedToken.{CheckedToken}
use Rattle.slots.specs.declared.CheckedToken.TheVariants as checked
use Rattle.checks.specs.Breach.{number}
use Rattle.checks.specs.declared.Breach.{Breach}
use Rattle.checks.specs.declared.Breach.TheVariants.{SymbolRedeclared, VariableRedeclaredAsConstant}

abbrev pub sense_of : CheckedToken → Sense
sense_of checked.Inactive = inactive
sense_of (checked.Constant a) = constant
sense_of (checked.Variable a) = variable

-- a kind that tells the offset of a statement, if there is one: kind 5 by the owner of a label of the same name, kind 11 by
-- the earlier `$f`
abbrev pub found_by : ℕ → Option StatementOffset → ℕ → ℕ → List Diag
found_by k (Some o) s i = diag k s i o.0
found_by k None s i = []

-- kind 1 by the label's owner
abbrev pub label_by : Option StatementOffset → ℕ → List Diag
label_by (Some o) s = choose (eqb o.0 s) [] (diag 1 s 0 o.0)
label_by None s = []

-- kind 6 by the global declaration, for a token at this offset
abbrev pub again : ℕ → ℕ → ℕ → ℕ → List Diag
again p o s i = choose (eqb p o) [] (diag 6 s i p)

abbrev pub redeclared_by : Option Global → ℕ → ℕ → ℕ → List Diag
redeclared_by (Some (global.Constant p)) o s i = again p.0 o s i
redeclared_by (Some (global.Variable p)) o s i = again p.0 o s i
redeclared_by None o s i = []

-- what stands against recording a nested `$v`: a kind and the declaring token, by the global declaration and the active nested one
abbrev pub against_known : Option TokenOffset → Option (Breach × TokenOffset)
against_known (Some p) = Some (SymbolRedeclared, p)
against_known None = None

abbrev pub against_by : Option Global → ℕ → Option TokenOffset → Option (Breach × TokenOffset)
against_by (Some (global.Constant g)) o k =
    choose (ltb g.0 o) (Some (SymbolRedeclared, g)) (Some (VariableRedeclaredAsConstant, g))
against_by (Some (global.Variable g)) o k = choose (ltb g.0 o) (Some (SymbolRedeclared, g)) (against_known k)
against_by None o k = against_known k

abbrev pub verdict_is : Option (Breach × TokenOffset) → paper.Verdict
verdict_is (Some x) = against (number x.0) x.1.0
verdict_is None = record_it

-- a token of a `$e`, `$a` or `$p`, by what it is and its active `$f`
abbrev pub missing_by : Option StatementRow → ℕ → ℕ → List Diag
missing_by (Some r) s i = []
missing_by None s i = diag 4 s i 0

abbrev pub symbol_by : Sense → Option StatementRow → ℕ → ℕ → List Diag
symbol_by inactive f s i = diag 2 s i 0
symbol_by constant f s i = []
symbol_by variable f s i = choose (eqb i 0) (diag 3 s 0 0) (missing_by f s i)

-- a token of a `$d`, by what it is and the first token of its name before it
abbrev pub disjoint_by : Sense → Option TokenIndex → ℕ → ℕ → List Diag
disjoint_by inactive k s i = diag 2 s i 0
disjoint_by constant k s i = diag 7 s i 0
disjoint_by variable k s i = repeat_diags k s i
