-- Proofs, A1 of document 02: a step that names an assertion. It takes its hypotheses from the stack, the `$f` entries fix the
-- substitution by equal typecode, the `$e` entries must match, and mandatory pairs must be kept apart.
use Rattle.std.specs.Prelude.{Bool, true, false, List, [], ◌∷◌, ◌++◌, ℕ, ◌-◌, ltb, length, get_or, take, drop}
use Rattle.std.proofs.Math.Option.{Option, none, some}
use Rattle.paper.specs.Base.{choose, and, sameb, all, find, gather}
use Rattle.paper.specs.State.{Symbol, con, var, Formula, Hyp, float, essential}
use Rattle.paper.specs.Variables.{variable_in}
use Rattle.paper.specs.Pairs.{Pair, apart}
use Rattle.paper.specs.Citations.{Theorem}

-- ---- formulas compared
abbrev pub same_symbol : Symbol → Symbol → Bool
same_symbol (con m) (con n) = sameb m n
same_symbol (con m) (var n) = false
same_symbol (var m) (con n) = false
same_symbol (var m) (var n) = sameb m n

unfoldable pub same_body : List Symbol → List Symbol → Bool
same_body [] [] = true
same_body [] (y ∷ m) = false
same_body (x ∷ l) [] = false
same_body (x ∷ l) (y ∷ m) = let r = same_body l m in choose (same_symbol x y) r false

abbrev pub same_formula : Formula → Formula → Bool
same_formula f g = and (sameb f.typecode g.typecode) (same_body f.body g.body)

-- ---- the substitution: each variable with the symbols of its `$f` entry, which may be none
pub record Binding : Type 0 where
  pub name : List ℕ
  pub body : List Symbol

abbrev pub bound_in : Option Binding → List Symbol
bound_in none = []
bound_in (some b) = b.body

-- what the substitution b puts for the variable n
unfoldable pub bound : List Binding → List ℕ → List Symbol
bound b n = bound_in (find (λ x. sameb x.name n) b)

abbrev pub replaced : List Binding → Symbol → List Symbol
replaced b (con n) = con n ∷ []
replaced b (var n) = bound b n

unfoldable pub substituted : List Binding → Formula → Formula
substituted b f = record { typecode = f.typecode; body = gather (replaced b) f.body }

-- ---- the `$f` entries fix the substitution: the hypotheses in order, each with its entry
abbrev pub binding : Hyp → Formula → List Binding
binding (float o e v c) x = record { name = v; body = x.body } ∷ []
binding (essential o e f) x = []

unfoldable pub bindings : List Hyp → List Formula → List Binding
bindings [] m = []
bindings (h ∷ l) [] = []
bindings (h ∷ l) (x ∷ m) = binding h x ++ bindings l m

-- ---- by equal typecode; the `$e` entries must match
abbrev pub fits : List Binding → Hyp → Formula → Bool
fits b (float o e v c) x = sameb c x.typecode
fits b (essential o e f) x = same_formula (substituted b f) x

unfoldable pub all_fit : List Binding → List Hyp → List Formula → Bool
all_fit b [] m = true
all_fit b (h ∷ l) [] = false
all_fit b (h ∷ l) (x ∷ m) = let r = all_fit b l m in choose (fits b h x) r false

-- ---- for each mandatory pair the two substituted expressions must share no variable and each cross pair of variables must be
-- disjoint in the frame of the `$p`. `d` are the `$d` of that frame; `apart d` is the test that its rows are made of, and
-- no variable is apart from itself
abbrev pub keeps_apart : List (List (List ℕ)) → List Symbol → List Symbol → Bool
keeps_apart d a b = all (λ x. all (apart d x) (gather variable_in b)) (gather variable_in a)

-- the pair p of the mandatory variables m
abbrev pub pair_holds : List (List (List ℕ)) → List Binding → List (List ℕ) → Pair → Bool
pair_holds d b m p = keeps_apart d (bound b (get_or m p.left [])) (bound b (get_or m p.right []))

-- ---- what a step does to the stack, whose top is last
-- the entries that stay, and the one that is pushed; or it is wrong
pub data Move : Type 0 where
  pushes : List Formula → Formula → Move
  fails : Move

-- the entries m are taken for the hypotheses, the entries st stay
abbrev pub taken : List (List (List ℕ)) → Theorem → List Formula → List Formula → Move
taken d t st m =
    let b = bindings t.hyps m in
    choose (and (all_fit b t.hyps m) (all (pair_holds d b t.variables) t.pairs))
    (pushes st (substituted b t.target)) fails

-- an assertion takes its hypotheses from the stack
unfoldable pub applied : List (List (List ℕ)) → Theorem → List Formula → Move
applied d t st =
    let k = length st - length t.hyps in
    let r = taken d t (take k st) (drop k st) in
    choose (ltb (length st) (length t.hyps)) fails r
