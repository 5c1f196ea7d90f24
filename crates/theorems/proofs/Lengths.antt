-- Lengths: every record of a text's streams is shorter than its length field can say.
-- By the text's length, and by number 7 for the pairs and rows of a frame.
use mathlib.Core.Path.{◌≡◌, refl, ap, ◌∙◌}
use mathlib.Core.Bool.{Bool, false}
use mathlib.Core.List.{List, [], ◌∷◌, ◌++◌, map}
use Prim.Native.Nat.{ℕ, zero, suc, ◌+◌, ◌*◌, ◌/◌, ◌<◌, ◌≤◌}
use native.Mathlib.Omega.{arith}
use lib.ListN.{length, length-append, length-map}
use borrow.Author.Tests.{ltb-false}
use Rattle.paper.specs.Base.{keep, gather, table}
use Rattle.paper.specs.Statements.{Statement}
use Rattle.paper.specs.State.{Symbol, con, var, Formula, Hyp, float, essential, Disjoint, State}
use Rattle.paper.specs.Variables.{member, see, sights, variable_in, variables_of, formula_in, mandatory}
use Rattle.paper.specs.Expressions.{raised, constant_in, pool_of, fragment_at, begun, reached, fragments, expression, hypothesis, pooled, hypotheses}
use Rattle.paper.specs.Pairs.{outer, inner, in_order, Pair, pairs, apart, row, rows}
use Rattle.paper.specs.Frames.{Frame, stub, full, frame_of}
use Rattle.paper.specs.Records.{le, u16, u32, string, framed, fragment_bytes, expression_bytes, hypothesis_bytes, pair_bytes, row_bytes, full_payload, frame_record}
use Rattle.paper.specs.Answer.{crowded, frame_at}
use Rattle.paper.proofs.Tests.{split}
use Rattle.paper.proofs.Lists.{gather_append}
use Rattle.paper.proofs.Sums.{total, total_append, total_keep, total_map, total_gather, total_times, length_gather}
use Rattle.theorems.proofs.Weights.{name_weight, symbol_weight, formula_weight, hyp_weight, disjoint_weight, state_weight}
use Rattle.theorems.proofs.Pairs.{pairs_few}

none_gathered : {A : Type 0} (f : A → List ℕ) {n : ℕ} → length (gather f []) ≤ n
unfolding gather
none_gathered f = omega arith

gathered : {A : Type 0} (f : A → List ℕ) (l m : List A)
    → length (gather f (l ++ m)) ≡ length (gather f l) + length (gather f m)
gathered f l m = ap length (gather_append f l m) ∙ length-append (gather f l) (gather f m)

-- ---- numbers and strings
le_length : (k n : ℕ) → length (le k n) ≡ k
unfolding le
le_length zero n = refl
le_length (suc k) n = ap suc (le_length k (n / 256))

pub u16_length : (n : ℕ) → length (u16 n) ≡ 2
unfolding u16
u16_length n = le_length 2 n

pub u32_length : (n : ℕ) → length (u32 n) ≡ 4
unfolding u32
u32_length n = le_length 4 n

string_length : (b : List ℕ) → length (string b) ≡ 4 + length b
unfolding string
string_length b = omega (arith, length-append (u32 (length b)) b, u32_length (length b))

raised_length : (n : List ℕ) → length (raised n) ≡ length n
unfolding raised
raised_length [] = refl
raised_length (b ∷ []) = refl
raised_length (b ∷ c ∷ l) = ap suc (raised_length (c ∷ l))

strings_length : (l : List (List ℕ)) → length (gather string l) ≤ 4 * total name_weight l
strings_length l =
    omega (
      arith,
      length_gather string l,
      total_times 4 (λ n. length (string n)) name_weight (λ n. omega (arith, string_length n)) l,
    )

-- ---- expressions and hypotheses
fragment_length : (l : List (List ℕ)) (x : Symbol) (a b : ℕ)
    → length (gather fragment_bytes (fragment_at l x a b)) ≤ 10 * symbol_weight x
unfolding gather fragment_bytes
fragment_length l (con n) a b = omega arith
fragment_length l (var n) a b =
    simp (length-append, u32_length, u16_length) (omega arith)

fragments_length : (l : List (List ℕ)) (m : List Symbol) (a b : ℕ)
    → length (gather fragment_bytes (fragments l m a b)) ≤ 10 * total symbol_weight m
unfolding fragments total
fragments_length l [] a b = none_gathered fragment_bytes
fragments_length l (x ∷ m) a b =
    omega (
      arith,
      gathered fragment_bytes (fragment_at l x a b) (fragments l m (begun x a b) (reached x b)),
      fragment_length l x a b,
      fragments_length l m (begun x a b) (reached x b),
    )

expression_length : (l : List (List ℕ)) (f : Formula) (a : ℕ)
    → length (expression_bytes (expression l f a)) ≤ 16 + 10 * formula_weight f
unfolding expression_bytes expression
expression_length l f a =
    simp (length-append, u32_length, string_length) (omega (arith, fragments_length l f.body a a))

hypothesis_length : (m : List (List ℕ)) (h : Hyp) (a : ℕ)
    → length (gather hypothesis_bytes (hypothesis m h a)) ≤ 22 * hyp_weight h
unfolding gather hypothesis_bytes
hypothesis_length m (float o e v c) a =
    split (member v m)
    (λ k. rw k (simp (length-append, u16_length, u32_length, string_length) (omega arith)))
    (λ k. rw k (omega arith))
hypothesis_length m (essential o e f) a =
    simp (length-append, u16_length, u32_length) (omega (arith, expression_length m f a))

hypotheses_length : (m : List (List ℕ)) (l : List Hyp) (a : ℕ)
    → length (gather hypothesis_bytes (hypotheses m l a)) ≤ 22 * total hyp_weight l
unfolding hypotheses total
hypotheses_length m [] a = none_gathered hypothesis_bytes
hypotheses_length m (h ∷ l) a =
    omega (
      arith,
      gathered hypothesis_bytes (hypothesis m h a) (hypotheses m l (a + length (pooled h))),
      hypothesis_length m h a,
      hypotheses_length m l (a + length (pooled h)),
    )

-- ---- the pool
constant_length : (x : Symbol) → length (constant_in x) ≤ 1 * symbol_weight x
constant_length (con n) = omega (arith, raised_length n)
constant_length (var n) = omega arith

pool_length : (f : Formula) → length (pool_of f) ≤ formula_weight f
unfolding pool_of
pool_length f =
    omega (
      arith,
      length_gather constant_in f.body,
      total_times 1 (λ x. length (constant_in x)) symbol_weight constant_length f.body,
    )

pooled_one : (h : Hyp) → length (pooled h) ≤ 1 * hyp_weight h
pooled_one (float o e v c) = omega arith
pooled_one (essential o e f) = omega (arith, pool_length f)

pooled_length : (l : List Hyp) → length (gather pooled l) ≤ total hyp_weight l
pooled_length l =
    omega (arith, length_gather pooled l, total_times 1 (λ h. length (pooled h)) hyp_weight pooled_one l)

-- ---- variables
see_weight : (l : List (List ℕ)) (n : List ℕ) → total name_weight (see l n) ≤ name_weight n + total name_weight l
unfolding total
see_weight l n =
    split (member n l) (λ e. rw e (omega arith)) (λ e. rw e (omega (arith, total_append name_weight l (n ∷ []))))

sights_weight : (m l : List (List ℕ)) → total name_weight (sights m l) ≤ total name_weight m + total name_weight l
unfolding sights total
sights_weight [] l = omega arith
sights_weight (n ∷ m) l = omega (arith, sights_weight m (see l n), see_weight l n)

see_grows : (l : List (List ℕ)) (n : List ℕ) → length l ≤ length (see l n)
see_grows l n =
    split (member n l) (λ e. rw e (omega arith)) (λ e. rw e (omega (arith, length-append l (n ∷ []))))

pub sights_grow : (m l : List (List ℕ)) → length l ≤ length (sights m l)
unfolding sights
sights_grow [] l = omega arith
sights_grow (n ∷ m) l = omega (arith, see_grows l n, sights_grow m (see l n))

variable_weight : (x : Symbol) → total name_weight (variable_in x) ≤ 1 * symbol_weight x
unfolding total
variable_weight (con n) = omega arith
variable_weight (var n) = omega arith

variables_weight : (f : Formula) → total name_weight (variables_of f) ≤ formula_weight f
unfolding variables_of
variables_weight f =
    omega (
      arith,
      total_gather name_weight variable_in f.body,
      total_times 1 (λ x. total name_weight (variable_in x)) symbol_weight variable_weight f.body,
    )

formulas_one : (h : Hyp) → total formula_weight (formula_in h) ≤ 1 * hyp_weight h
unfolding total
formulas_one (float o e v c) = omega arith
formulas_one (essential o e f) = omega arith

formulas_weight : (l : List Formula) → total name_weight (gather variables_of l) ≤ total formula_weight l
formulas_weight l =
    omega (
      arith,
      total_gather name_weight variables_of l,
      total_times 1 (λ f. total name_weight (variables_of f)) formula_weight (λ f. omega (arith, variables_weight f)) l,
    )

mandatory_weight : (h : List Hyp) (f : Formula)
    → total name_weight (mandatory h f) ≤ total hyp_weight h + formula_weight f
unfolding mandatory total
mandatory_weight h f =
    omega (
      arith,
      sights_weight (gather variables_of (gather formula_in h ++ (f ∷ []))) [],
      formulas_weight (gather formula_in h ++ (f ∷ [])),
      total_append formula_weight (gather formula_in h) (f ∷ []),
      total_gather formula_weight formula_in h,
      total_times 1 (λ x. total formula_weight (formula_in x)) hyp_weight formulas_one h,
    )

order_weight : (l : List Disjoint) → total name_weight (gather (λ n. n) (in_order l)) ≤ 2 * total disjoint_weight l
unfolding in_order
order_weight l =
    omega (
      arith,
      total_gather name_weight (λ n. n) (map (λ d. d.names) (keep outer l ++ keep inner l)),
      total_map (total name_weight) (λ d. d.names) (keep outer l ++ keep inner l),
      total_append disjoint_weight (keep outer l) (keep inner l),
      total_keep disjoint_weight outer l,
      total_keep disjoint_weight inner l,
    )

-- ---- pairs and rows
pair_length : (l : List Pair) → length (gather pair_bytes l) ≡ 4 * length l
unfolding gather pair_bytes
pair_length [] = refl
pair_length (x ∷ l) =
    simp (length-append, u16_length) (omega (arith, pair_length l))

table_length : {A : Type 0} (f : ℕ → A) (n : ℕ) → length (table f n) ≡ n
unfolding table
table_length f zero = refl
table_length f (suc n) = omega (arith, length-append (table f n) (f n ∷ []), table_length f n)

pub row_length : (r : List Bool) → length (row_bytes r) ≡ (length r + 7) / 8
unfolding row_bytes
row_length r = table_length _ ((length r + 7) / 8)

rows_length : (l : List (List ℕ)) (d : List (List (List ℕ))) (k : List (List ℕ)) → length l ≤ 4095
    → length (gather row_bytes (map (row l d) k)) ≤ 512 * length k
unfolding gather
rows_length l d [] h = omega arith
rows_length l d (x ∷ k) h =
    omega (
      arith,
      length-append (row_bytes (row l d x)) (gather row_bytes (map (row l d) k)),
      row_length (row l d x),
      length-map l (apart d x),
      rows_length l d k h,
    )

-- ---- the payload of a frame record after the statement's offset
abbrev pub kind_of : Frame → ℕ
kind_of (stub o e n c v) = 4
kind_of (full f) = f.kind

abbrev pub rest_of : Frame → List ℕ
rest_of (stub o e n c v) = u32 e ++ (string n ++ (string c ++ string v))
rest_of (full f) =
    string f.label
    ++ (u16 (length f.variables)
    ++ (u16 f.mandatory
    ++ (gather string f.variables
    ++ (string f.pool
    ++ (u32 (length f.hyps)
    ++ (gather hypothesis_bytes f.hyps
    ++ (expression_bytes f.target
    ++ (u32 (length f.pairs)
    ++ (gather pair_bytes f.pairs ++ gather row_bytes f.rows)))))))))

pub frame_framed : (x : Frame) → frame_record x ≡ framed (kind_of x) (u32 (frame_at x) ++ rest_of x)
unfolding frame_record full_payload
frame_framed (stub o e n c v) = refl
frame_framed (full f) = refl

abbrev pub Short : Frame → Type 0
Short x = 6 + length (rest_of x) < 4294967296

pub stub_short : (o e : ℕ) (n c v : List ℕ) → length n + (length c + length v) ≤ 16777217 → Short (stub o e n c v)
stub_short o e n c v h =
    simp (length-append, u32_length, string_length) (omega arith)

pub full_short : (k : ℕ) (s : Statement) (v : State) (f : Formula)
    → state_weight v + (formula_weight f + length s.label) ≤ 16777217 → crowded (frame_of k s v f) ≡ false
    → Short (frame_of k s v f)
unfolding frame_of rows
full_short k s v f h c =
    let m = mandatory v.hyps f in
    let d = in_order v.disjoints in
    let l = sights (gather (λ n. n) d) m in
    let few : length l ≤ 4095 = ltb-false 4095 (length l) c in
    let a : length m ≤ 4096 = omega (arith, sights_grow (gather (λ n. n) d) m) in
    let b : total name_weight l ≤ 2 * total disjoint_weight v.disjoints + (total hyp_weight v.hyps + formula_weight f) =
    omega (arith, sights_weight (gather (λ n. n) d) m, order_weight v.disjoints, mandatory_weight v.hyps f) in
    simp (length-append, u16_length, u32_length, string_length)
    (omega (
      arith,
      strings_length l,
      b,
      pooled_length v.hyps,
      pool_length f,
      hypotheses_length m v.hyps 0,
      expression_length m f (length (gather pooled v.hyps)),
      pair_length (pairs m d),
      pairs_few m d a,
      rows_length l d l few,
    ))
