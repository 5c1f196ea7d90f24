-- Scope rules: the diagnostics of one statement, in order of discovery.
-- `w` is the statements of the whole text, `v` what is active at the statement `s`.
use Rattle.std.specs.Prelude.{List, [], ◌∷◌, ◌++◌, ℕ, zero, suc, eqb, ltb, get_or}
use Rattle.std.proofs.Math.Option.{Option, none, some}
use Rattle.paper.specs.Base.{choose, sameb}
use Rattle.paper.specs.Tokens.{Token}
use Rattle.paper.specs.Statements.{Statement}
use Rattle.paper.specs.Names.{owner, Declared, global}
use Rattle.paper.specs.State.{Nested, Hyp, hyp_at, State, nested_of, float_of, Sense, inactive, constant, variable, sense}

pub record Diag : Type 0 where
  pub kind : ℕ
  pub statement : ℕ
  pub index : ℕ
  pub other : ℕ

abbrev pub diag : ℕ → ℕ → ℕ → ℕ → List Diag
diag k s i o = record { kind = k; statement = s; index = i; other = o } ∷ []

-- each token with its index
unfoldable pub each : (ℕ → Token → List Diag) → List Token → ℕ → List Diag
each f [] i = []
each f (t ∷ l) i = f i t ++ each f l (suc i)

abbrev pub no_token : Token
no_token = record { at = 0; bytes = [] }

abbrev pub token : Statement → ℕ → Token
token s i = get_or s.math i no_token

-- ---- Labels. A later bearer gets kind 1
abbrev pub label_diags : Option Token → Statement → List Diag
label_diags none s = []
label_diags (some b) s = choose (eqb b.at s.at) [] (diag 1 s.at 0 b.at)

unfoldable pub check_label : List Statement → Statement → List Diag
check_label w s = label_diags (owner w s.label) s

-- ---- `$c`, and outermost `$v`, per token: kind 5, then kind 6 if this is not the global declaration
abbrev pub clash : Option Token → ℕ → ℕ → List Diag
clash none s i = []
clash (some b) s i = diag 5 s i b.at

abbrev pub redeclared : Option Declared → ℕ → ℕ → Token → List Diag
redeclared none s i t = []
redeclared (some g) s i t = choose (eqb g.at t.at) [] (diag 6 s i g.at)

abbrev pub outer_token : List Statement → ℕ → ℕ → Token → List Diag
outer_token w s i t = clash (owner w t.bytes) s i ++ redeclared (global w t.bytes) s i t

unfoldable pub check_outer : List Statement → Statement → List Diag
check_outer w s = each (outer_token w s.at) s.math 0

-- ---- Nested `$v`, per token: kind 5; then kind 6 if a global declaration stands earlier, or kind 12 if it stands later
-- and is a `$c`; either way the token is not recorded. Else kind 6 if an active nested one exists; else recorded
pub data Verdict : Type 0 where
  against : ℕ → ℕ → Verdict
  record_it : Verdict

abbrev pub by_known : Option Nested → Verdict
by_known none = record_it
by_known (some x) = against 6 x.at

abbrev pub by_declared : Option Declared → ℕ → Verdict → Verdict
by_declared none o r = r
by_declared (some g) o r =
    choose (ltb g.at o) (against 6 g.at) (choose g.constant (against 12 g.at) r)

-- `known` are the active nested ones, with those that earlier tokens of the same `$v` recorded
unfoldable pub verdict : List Statement → List Nested → Token → Verdict
verdict w known t = by_declared (global w t.bytes) t.at (by_known (nested_of known t.bytes))

abbrev pub verdict_diags : Verdict → ℕ → ℕ → List Diag
verdict_diags (against k o) s i = diag k s i o
verdict_diags record_it s i = []

abbrev pub recorded_by : Verdict → ℕ → Token → List Nested
recorded_by (against k o) e t = []
recorded_by record_it e t = record { name = t.bytes; at = t.at; end = e } ∷ []

-- one token of a nested `$v` whose end is e: what it records
unfoldable pub records : List Statement → ℕ → List Nested → Token → List Nested
records w e known t = recorded_by (verdict w known t) e t

-- what tokens of a nested `$v` at s with end e record, one after the other
unfoldable pub nested_records : List Statement → ℕ → List Token → List Nested → List Nested
nested_records w e [] known = []
nested_records w e (t ∷ l) known =
    records w e known t ++ nested_records w e l (known ++ records w e known t)

unfoldable pub nested_diags : List Statement → ℕ → ℕ → List Token → ℕ → List Nested → List Diag
nested_diags w s e [] i known = []
nested_diags w s e (t ∷ l) i known =
    (clash (owner w t.bytes) s i ++ verdict_diags (verdict w known t) s i)
    ++ nested_diags w s e l (suc i) (known ++ records w e known t)

-- ---- `$f`: token 0 (2 or 9); token 1 (2 or 10); only if both pass, kind 11 if the variable already has an active `$f`
abbrev pub typecode_diags : Sense → ℕ → List Diag
typecode_diags inactive s = diag 2 s 0 0
typecode_diags constant s = []
typecode_diags variable s = diag 9 s 0 0

abbrev pub variable_diags : Sense → ℕ → List Diag
variable_diags inactive s = diag 2 s 1 0
variable_diags constant s = diag 10 s 1 0
variable_diags variable s = []

abbrev pub float_diags : Option Hyp → ℕ → List Diag
float_diags none s = []
float_diags (some h) s = diag 11 s 0 (hyp_at h)

abbrev pub if_none : List Diag → List Diag → List Diag
if_none [] r = r
if_none (d ∷ l) r = d ∷ l

unfoldable pub check_float : List Statement → State → Statement → List Diag
check_float w v s =
    if_none (typecode_diags (sense w v (token s 0)) s.at ++ variable_diags (sense w v (token s 1)) s.at)
    (float_diags (float_of v.hyps (token s 1).bytes) s.at)

-- ---- `$e`, `$a`, `$p`: 2 if inactive; a variable at token 0 gives 3; one elsewhere without active `$f` gives 4
abbrev pub missing : Option Hyp → ℕ → ℕ → List Diag
missing none s i = diag 4 s i 0
missing (some h) s i = []

abbrev pub placed : ℕ → Option Hyp → ℕ → List Diag
placed zero h s = diag 3 s 0 0
placed (suc i) h s = missing h s (suc i)

abbrev pub symbol_diags : Sense → Option Hyp → ℕ → ℕ → List Diag
symbol_diags inactive h s i = diag 2 s i 0
symbol_diags constant h s i = []
symbol_diags variable h s i = placed i h s

abbrev pub symbol_token : List Statement → State → ℕ → ℕ → Token → List Diag
symbol_token w v s i t = symbol_diags (sense w v t) (float_of v.hyps t.bytes) s i

unfoldable pub check_expression : List Statement → State → Statement → List Diag
check_expression w v s = each (symbol_token w v s.at) s.math 0

-- ---- `$d`, per token: 2; 7 for a constant; 8 for a repeat
-- the index of the first token of a name
unfoldable pub first_index : List Token → List ℕ → ℕ
first_index [] n = 0
first_index (t ∷ l) n = let r = suc (first_index l n) in choose (sameb t.bytes n) 0 r

abbrev pub disjoint_diags : Sense → ℕ → ℕ → ℕ → List Diag
disjoint_diags inactive j s i = diag 2 s i 0
disjoint_diags constant j s i = diag 7 s i 0
disjoint_diags variable j s i = choose (ltb j i) (diag 8 s i j) []

abbrev pub disjoint_token : List Statement → State → Statement → ℕ → Token → List Diag
disjoint_token w v s i t = disjoint_diags (sense w v t) (first_index s.math t.bytes) s.at i

unfoldable pub check_disjoint : List Statement → State → Statement → List Diag
check_disjoint w v s = each (disjoint_token w v s) s.math 0
