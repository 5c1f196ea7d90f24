-- Every diagnostic of a statement carries the statement's offset, and so does its frame.
-- The lemma S2 of the proof on paper, for the things that the records are made of.
use mathlib.Core.Path.{◌≡◌, refl}
use mathlib.Core.List.{List, [], ◌∷◌, ◌++◌}
use mathlib.Core.Option.{Option, none, some}
use Prim.Native.Nat.{ℕ, zero, suc}
use lib.Dec.{eqb, ltb}
use Rattle.paper.specs.Tokens.{Token}
use Rattle.paper.specs.Statements.{Kind, $c, $v, $d, $f, $e, $a, $p, Statement, outermost}
use Rattle.paper.specs.Names.{owner, Declared, global}
use Rattle.paper.specs.State.{Nested, Hyp, State, float_of, view, Sense, inactive, constant, variable, sense}
use Rattle.paper.specs.Checks.{Diag, diag, each, token, label_diags, check_label, clash, redeclared, outer_token, check_outer, Verdict, against, record_it, verdict, verdict_diags, records, nested_diags, typecode_diags, variable_diags, float_diags, if_none, check_float, missing, placed, symbol_diags, symbol_token, check_expression, disjoint_diags, disjoint_token, check_disjoint, first_index}
use Rattle.paper.specs.Frames.{Frame, frame_of}
use Rattle.paper.specs.Give.{Given, only, accept, unless, give_c, give_v, give_d, give_f, give_e, give_assertion, give_by, give, gives}
use Rattle.paper.specs.Answer.{frame_at}
use Rattle.paper.proofs.Tests.{split}
use Rattle.paper.proofs.Alls.{All, all_none, all_more, all_append, all_map}

abbrev pub OfStatement : ℕ → Diag → Type 0
OfStatement o d = d.statement ≡ o

abbrev pub FrameOf : ℕ → Frame → Type 0
FrameOf o f = frame_at f ≡ o

-- ---- the diagnostics of a statement
one : (k s i o : ℕ) → All (OfStatement s) (diag k s i o)
one k s i o = all_more refl all_none

each_at : {s : ℕ} (f : ℕ → Token → List Diag) → ((i : ℕ) (t : Token) → All (OfStatement s) (f i t))
    → (l : List Token) (i : ℕ) → All (OfStatement s) (each f l i)
unfolding each
each_at f h [] i = all_none
each_at f h (t ∷ l) i = all_append (h i t) (each_at f h l (suc i))

label_at : (b : Option Token) (s : Statement) → All (OfStatement s.at) (label_diags b s)
label_at none s = all_none
label_at (some b) s = split (eqb b.at s.at) (λ e. rw e all_none) (λ e. rw e (one 1 s.at 0 b.at))

clash_at : (b : Option Token) (s i : ℕ) → All (OfStatement s) (clash b s i)
clash_at none s i = all_none
clash_at (some b) s i = one 5 s i b.at

redeclared_at : (g : Option Declared) (s i : ℕ) (t : Token) → All (OfStatement s) (redeclared g s i t)
redeclared_at none s i t = all_none
redeclared_at (some g) s i t = split (eqb g.at t.at) (λ e. rw e all_none) (λ e. rw e (one 6 s i g.at))

verdict_at : (v : Verdict) (s i : ℕ) → All (OfStatement s) (verdict_diags v s i)
verdict_at (against k o) s i = one k s i o
verdict_at record_it s i = all_none

outer_at : (w : List Statement) (s : Statement) → All (OfStatement s.at) (check_outer w s)
unfolding check_outer
outer_at w s =
    each_at (outer_token w s.at)
    (λ i t. all_append (clash_at (owner w t.bytes) s.at i) (redeclared_at (global w t.bytes) s.at i t)) s.math 0

nested_at : (w : List Statement) (s e : ℕ) (l : List Token) (i : ℕ) (k : List Nested)
    → All (OfStatement s) (nested_diags w s e l i k)
unfolding nested_diags
nested_at w s e [] i k = all_none
nested_at w s e (t ∷ l) i k =
    all_append (all_append (clash_at (owner w t.bytes) s i) (verdict_at (verdict w k t) s i))
    (nested_at w s e l (suc i) (k ++ records w e k t))

typecode_at : (x : Sense) (s : ℕ) → All (OfStatement s) (typecode_diags x s)
typecode_at inactive s = one 2 s 0 0
typecode_at constant s = all_none
typecode_at variable s = one 9 s 0 0

variable_at : (x : Sense) (s : ℕ) → All (OfStatement s) (variable_diags x s)
variable_at inactive s = one 2 s 1 0
variable_at constant s = one 10 s 1 0
variable_at variable s = all_none

float_at : (h : Option Hyp) (s : ℕ) → All (OfStatement s) (float_diags h s)
float_at none s = all_none
float_at (some h) s = all_more refl all_none

if_none_at : {s : ℕ} (a b : List Diag) → All (OfStatement s) a → All (OfStatement s) b
    → All (OfStatement s) (if_none a b)
if_none_at [] b x y = y
if_none_at (d ∷ a) b x y = x

check_float_at : (w : List Statement) (v : State) (s : Statement) → All (OfStatement s.at) (check_float w v s)
unfolding check_float
check_float_at w v s =
    if_none_at _ _
    (all_append (typecode_at (sense w v (token s 0)) s.at) (variable_at (sense w v (token s 1)) s.at))
    (float_at (float_of v.hyps (token s 1).bytes) s.at)

missing_at : (h : Option Hyp) (s i : ℕ) → All (OfStatement s) (missing h s i)
missing_at none s i = one 4 s i 0
missing_at (some h) s i = all_none

placed_at : (i : ℕ) (h : Option Hyp) (s : ℕ) → All (OfStatement s) (placed i h s)
placed_at zero h s = one 3 s 0 0
placed_at (suc i) h s = missing_at h s (suc i)

symbol_at : (x : Sense) (h : Option Hyp) (s i : ℕ) → All (OfStatement s) (symbol_diags x h s i)
symbol_at inactive h s i = one 2 s i 0
symbol_at constant h s i = all_none
symbol_at variable h s i = placed_at i h s

expression_at : (w : List Statement) (v : State) (s : Statement) → All (OfStatement s.at) (check_expression w v s)
unfolding check_expression
expression_at w v s =
    each_at (symbol_token w v s.at) (λ i t. symbol_at (sense w v t) (float_of v.hyps t.bytes) s.at i) s.math 0

distinct_at : (x : Sense) (j s i : ℕ) → All (OfStatement s) (disjoint_diags x j s i)
distinct_at inactive j s i = one 2 s i 0
distinct_at constant j s i = one 7 s i 0
distinct_at variable j s i = split (ltb j i) (λ e. rw e (one 8 s i j)) (λ e. rw e all_none)

disjoint_at : (w : List Statement) (v : State) (s : Statement) → All (OfStatement s.at) (check_disjoint w v s)
unfolding check_disjoint
disjoint_at w v s =
    each_at (disjoint_token w v s) (λ i t. distinct_at (sense w v t) (first_index s.math t.bytes) s.at i) s.math 0

-- ---- what a statement gives
pub record Stands (o : ℕ) (g : Given) : Type 0 where
  pub diags : All (OfStatement o) g.diags
  pub frame : All (FrameOf o) g.frame

only_at : {o : ℕ} {d : List Diag} → All (OfStatement o) d → Stands o (only d)
only_at a = record { diags = a; frame = all_none }

accept_at : {o : ℕ} (d : List Diag) (r : State) {f : List Frame} → All (OfStatement o) d → All (FrameOf o) f
    → Stands o (accept d r f)
accept_at [] r a b = record { diags = all_none; frame = b }
accept_at (x ∷ d) r a b = record { diags = a; frame = all_none }

unless_at : {o : ℕ} (d : List Diag) {g : Given} → All (OfStatement o) d → Stands o g → Stands o (unless d g)
unless_at [] a b = b
unless_at (x ∷ d) a b = record { diags = a; frame = all_none }

give_at_by : (k : Kind) (w : List Statement) (v : State) (s : Statement) → Stands s.at (give_by k w v s)
unfolding give_c give_v give_d give_f give_e give_assertion check_label frame_of
give_at_by $c w v s =
    split (outermost s) (λ e. rw e (only_at (outer_at w s))) (λ e. rw e (only_at (one 13 s.at 0 0)))
give_at_by $v w v s =
    split (outermost s)
    (λ e. rw e (only_at (outer_at w s)))
    (λ e. rw e (record { diags = nested_at w s.at s.end s.math 0 v.nested; frame = all_none }))
give_at_by $d w v s = accept_at (check_disjoint w v s) _ (disjoint_at w v s) all_none
give_at_by $f w v s =
    unless_at (check_label w s) (label_at (owner w s.label) s)
    (accept_at (check_float w v s) _ (check_float_at w v s) (all_more refl all_none))
give_at_by $e w v s =
    unless_at (check_label w s) (label_at (owner w s.label) s)
    (accept_at (check_expression w v s) _ (expression_at w v s) all_none)
give_at_by $a w v s =
    unless_at (check_label w s) (label_at (owner w s.label) s)
    (accept_at (check_expression w v s) _ (expression_at w v s) (all_more refl all_none))
give_at_by $p w v s =
    unless_at (check_label w s) (label_at (owner w s.label) s)
    (accept_at (check_expression w v s) _ (expression_at w v s) (all_more refl all_none))

pub give_at : (w : List Statement) (v : State) (s : Statement) → Stands s.at (give w v s)
unfolding give
give_at w v s = give_at_by s.kind w v s

-- ---- what statements give one after the other: where they stand stand their diagnostics and frames
pub diags_at : (P : ℕ → Type 0) (w : List Statement) {l : List Statement} → All (λ s. P s.at) l → (x : State)
    → All (λ g. All (λ d. P d.statement) g.diags) (gives w l x)
unfolding gives
diags_at P w all_none x = all_none
diags_at P w (all_more {x = s} h a) x =
    all_more (all_map (λ d e. rw e h) (give_at w (view x s.at) s).diags) (diags_at P w a _)

pub frames_at : (P : ℕ → Type 0) (w : List Statement) {l : List Statement} → All (λ s. P s.at) l → (x : State)
    → All (λ g. All (λ f. P (frame_at f)) g.frame) (gives w l x)
unfolding gives
frames_at P w all_none x = all_none
frames_at P w (all_more {x = s} h a) x =
    all_more (all_map (λ f e. rw e h) (give_at w (view x s.at) s).frame) (frames_at P w a _)
