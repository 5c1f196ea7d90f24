-- Weights: what the statements of a text and all that they record come to is bounded by the text's length.
-- For the lengths of records; each token counts its bytes and one more.
use mathlib.Core.Path.{◌≡◌, refl}
use mathlib.Core.List.{List, [], ◌∷◌, map}
use Prim.Native.Nat.{ℕ, suc, ◌+◌, ◌≤◌}
use native.Mathlib.Omega.{arith}
use lib.ListN.{length, drop}
use Rattle.paper.specs.Bytes.{white}
use Rattle.paper.specs.Tokens.{Token, put, run, toks, tokens, key}
use Rattle.paper.specs.Comments.{Place, outside, inside, next, marked, visible}
use Rattle.paper.specs.Statements.{Kind, $c, $v, $d, $f, $e, $a, $p, Statement, outermost, Item, opens, closes, states, ends}
use Rattle.paper.specs.Reader.{given, items}
use Rattle.paper.specs.State.{Symbol, con, var, Formula, Hyp, float, essential, Disjoint, State, nothing, plus, active_hyp, active_disjoint, view, Sense, inactive, constant, variable, sense}
use Rattle.paper.specs.Checks.{Diag, token, check_label, check_float, check_expression, check_disjoint}
use Rattle.paper.specs.Variables.{symbol_of, symbol, formula}
use Rattle.paper.specs.Frames.{Frame}
use Rattle.paper.specs.Give.{Given, accept, unless, give_c, give_v, give_d, give_f, give_e, give_assertion, give_by, give}
use Rattle.paper.proofs.Tests.{split}
use Rattle.paper.proofs.Sums.{total, total_append, total_keep}
use Rattle.theorems.proofs.Gives.{weight, statement_weight}
use Rattle.theorems.proofs.Stands.{items_weight, reads_weight}
use Rattle.theorems.proofs.Texts.{items_read, read_reads}

-- ---- tokens of bytes
put_weight : (o : ℕ) (h : List ℕ) (l : List Token) → weight (put o h l) ≤ suc (length h) + weight l
unfolding total
put_weight o [] l = omega arith
put_weight o (b ∷ h) l = omega arith

run_weight : (l : List ℕ) (o : ℕ) → length (run l o).head + weight (run l o).rest ≤ length l
unfolding run total
run_weight [] o = omega arith
run_weight (b ∷ l) o =
    let r = run_weight l (suc o) in
    split (white b)
    (λ e. rw e (omega (arith, put_weight (suc o) (run l (suc o)).head (run l (suc o)).rest)))
    (λ e. rw e (omega arith))

toks_weight : (l : List ℕ) (o : ℕ) → weight (toks l o) ≤ suc (length l)
unfolding toks
toks_weight l o = omega (arith, put_weight o (run l o).head (run l o).rest, run_weight l o)

visible_weight : (l : List Token) (m : Place) → weight (visible l m) ≤ weight l
unfolding visible total
visible_weight [] m = omega arith
visible_weight (t ∷ l) outside =
    split (key 40 t)
    (λ k. rw k (omega (arith, visible_weight l (inside t.at))))
    (λ k. rw k (omega (arith, visible_weight l outside)))
visible_weight (t ∷ l) (inside o) =
    split (marked t)
    (λ k. rw k (omega (arith, visible_weight l (next (inside o) t))))
    (λ k. rw k (omega (arith, visible_weight l (next (inside o) t))))

-- ---- the statements of a text
abbrev pub statements_weight : List Statement → ℕ
statements_weight l = total statement_weight l

ends_weight : (i : List Item) (l : List ℕ) → statements_weight (ends i l) ≡ items_weight i
unfolding ends total
ends_weight [] l = refl
ends_weight (opens p ∷ i) l = omega (arith, ends_weight i l)
ends_weight (closes q ∷ i) l = omega (arith, ends_weight i l)
ends_weight (states s ∷ i) l = omega (arith, ends_weight i l)

pub text_weight : (t : List ℕ) (i : List Item) → items (tokens t) (length t) ≡ given i
    → statements_weight (ends i []) ≤ suc (length t)
unfolding tokens
text_weight t i e =
    let r = reads_weight (read_reads (items_read (tokens t) (length t) i e)) in
    omega (arith, ends_weight i [], r, visible_weight (tokens t) outside, toks_weight t 0)

-- ---- what is recorded
abbrev pub name_weight : List ℕ → ℕ
name_weight n = suc (length n)

abbrev pub symbol_weight : Symbol → ℕ
symbol_weight (con n) = suc (length n)
symbol_weight (var n) = suc (length n)

abbrev pub formula_weight : Formula → ℕ
formula_weight f = length f.typecode + total symbol_weight f.body

abbrev pub hyp_weight : Hyp → ℕ
hyp_weight (float o e v c) = suc (length v + length c)
hyp_weight (essential o e f) = suc (formula_weight f)

abbrev pub disjoint_weight : Disjoint → ℕ
disjoint_weight d = total name_weight d.names

abbrev pub state_weight : State → ℕ
state_weight x = total hyp_weight x.hyps + total disjoint_weight x.disjoints

pub view_weight : (x : State) (a : ℕ) → state_weight (view x a) ≤ state_weight x
unfolding view
view_weight x a =
    omega (arith, total_keep hyp_weight (active_hyp a) x.hyps, total_keep disjoint_weight (active_disjoint a) x.disjoints)

pub plus_weight : (x y : State) → state_weight (plus x y) ≡ state_weight x + state_weight y
plus_weight x y =
    omega (arith, total_append hyp_weight x.hyps y.hyps, total_append disjoint_weight x.disjoints y.disjoints)

-- ---- a statement records no more than it has
symbol_of_weight : (x : Sense) (n : List ℕ) → symbol_weight (symbol_of x n) ≡ suc (length n)
symbol_of_weight inactive n = refl
symbol_of_weight constant n = refl
symbol_of_weight variable n = refl

body_weight : (w : List Statement) (v : State) (l : List Token) → total symbol_weight (map (symbol w v) l) ≡ weight l
unfolding total
body_weight w v [] = refl
body_weight w v (t ∷ l) = omega (arith, symbol_of_weight (sense w v t) t.bytes, body_weight w v l)

first_weight : (s : Statement) (m : List Token) → s.math ≡ m
    → length (token s 0).bytes + weight (drop 1 s.math) ≤ weight s.math
unfolding total
first_weight s [] e = rw e (omega arith)
first_weight s (t ∷ m) e = rw e (omega arith)

pub formula_light : (w : List Statement) (v : State) (s : Statement)
    → formula_weight (formula w v s) ≤ weight s.math
unfolding formula
formula_light w v s = omega (arith, body_weight w v (drop 1 s.math), first_weight s s.math refl)

pub two_light : (s : Statement) (m : List Token) → s.math ≡ m
    → length (token s 1).bytes + length (token s 0).bytes ≤ weight s.math
unfolding total
two_light s [] e = rw e (omega arith)
two_light s (t ∷ []) e = rw e (omega arith)
two_light s (t ∷ u ∷ m) e = rw e (omega arith)

names_light : (l : List Token) → total name_weight (map (λ t. t.bytes) l) ≡ weight l
unfolding total
names_light [] = refl
names_light (t ∷ l) = omega (arith, names_light l)

accept_light : (n : ℕ) (d : List Diag) (r : State) (f : List Frame) → state_weight r ≤ n
    → state_weight (accept d r f).records ≤ n
unfolding total
accept_light n [] r f h = h
accept_light n (x ∷ d) r f h = omega arith

unless_light : (n : ℕ) (d : List Diag) (g : Given) → state_weight g.records ≤ n
    → state_weight (unless d g).records ≤ n
unfolding total
unless_light n [] g h = h
unless_light n (x ∷ d) g h = omega arith

light_by : (k : Kind) (w : List Statement) (v : State) (s : Statement)
    → state_weight (give_by k w v s).records ≤ statement_weight s
unfolding give_c give_v give_d give_f give_e give_assertion total
light_by $c w v s = split (outermost s) (λ e. rw e (omega arith)) (λ e. rw e (omega arith))
light_by $v w v s = split (outermost s) (λ e. rw e (omega arith)) (λ e. rw e (omega arith))
light_by $d w v s =
    accept_light (statement_weight s) (check_disjoint w v s) _ [] (omega (arith, names_light s.math))
light_by $f w v s =
    unless_light (statement_weight s) (check_label w s) _
    (accept_light (statement_weight s) (check_float w v s) _ _ (omega (arith, two_light s s.math refl)))
light_by $e w v s =
    unless_light (statement_weight s) (check_label w s) _
    (accept_light (statement_weight s) (check_expression w v s) _ [] (omega (arith, formula_light w v s)))
light_by $a w v s =
    unless_light (statement_weight s) (check_label w s) _
    (accept_light (statement_weight s) (check_expression w v s) nothing _ (omega arith))
light_by $p w v s =
    unless_light (statement_weight s) (check_label w s) _
    (accept_light (statement_weight s) (check_expression w v s) nothing _ (omega arith))

pub light : (w : List Statement) (v : State) (s : Statement) → state_weight (give w v s).records ≤ statement_weight s
unfolding give
light w v s = light_by s.kind w v s
