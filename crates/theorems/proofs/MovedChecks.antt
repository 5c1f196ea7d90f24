-- Offsets moved by a rising function: the diagnostics of a statement are moved by it.
-- Each check of the definitions, in their order.
use mathlib.Core.Path.{◌≡◌, refl, sym, ap, ◌∙◌}
use mathlib.Core.List.{List, [], ◌∷◌, ◌++◌, map}
use mathlib.Core.Option.{Option, none, some}
use Prim.Native.Nat.{ℕ, zero, suc}
use lib.Dec.{eqb, ltb}
use lib.ListN.{get_or}
use Rattle.paper.specs.Tokens.{Token}
use Rattle.paper.specs.Statements.{Statement}
use Rattle.paper.specs.Names.{owner, Declared, global}
use Rattle.paper.specs.State.{Nested, Hyp, float, essential, State, nested_of, float_of, Sense, inactive, constant, variable, sense}
use Rattle.paper.specs.Checks.{Diag, each, no_token, token, label_diags, check_label, clash, redeclared, outer_token, check_outer, by_known, by_declared, verdict, verdict_diags, records, nested_diags, typecode_diags, variable_diags, float_diags, if_none, check_float, missing, symbol_diags, symbol_token, check_expression, first_index, disjoint_diags, disjoint_token, check_disjoint}
use Rattle.paper.proofs.Tests.{split}
use Rattle.paper.proofs.Alls.{All}
use Rattle.paper.proofs.Gather.{map_append}
use Rattle.theorems.specs.Moved.{moved_end, moved_token, moved_statement, moved_nested, moved_hyp, moved_state, moved_diag, Rises, PlacedBelow}
use Rattle.theorems.proofs.Mapped.{map_option}
use Rattle.theorems.proofs.MovedNames.{owner_moved, moved_declared, float_moved, moved_verdict, same_moved, global_moved, sense_moved, verdict_moved, records_moved}

-- ---- whatever the function
module _ (f : ℕ → ℕ) where
  each_moved : (g h : ℕ → Token → List Diag) → ((i : ℕ) (t : Token) → g i (moved_token f t) ≡ map (moved_diag f) (h i t))
      → (l : List Token) (i : ℕ) → each g (map (moved_token f) l) i ≡ map (moved_diag f) (each h l i)
  unfolding each
  each_moved g h e [] i = refl
  each_moved g h e (t ∷ l) i =
      rw (e i t, each_moved g h e l (suc i)) (sym (map_append (moved_diag f) (h i t) (each h l (suc i))))

  clash_moved : (o : Option Token) (s i : ℕ) → clash (map_option (moved_token f) o) (f s) i ≡ map (moved_diag f) (clash o s i)
  clash_moved none s i = refl
  clash_moved (some b) s i = refl

  -- the kinds that a nested `$v` may give are 6 and 12
  told_moved : (x : Option Nested) (g : Option Declared) (o s i : ℕ)
      → verdict_diags (moved_verdict f (by_declared g o (by_known x))) (f s) i
      ≡ map (moved_diag f) (verdict_diags (by_declared g o (by_known x)) s i)
  told_moved none none o s i = refl
  told_moved (some x) none o s i = refl
  told_moved none (some g) o s i =
      split (ltb g.at o) (λ z. rw z) (λ z. rw z (split g.constant (λ y. rw y) (λ y. rw y)))
  told_moved (some x) (some g) o s i =
      split (ltb g.at o) (λ z. rw z) (λ z. rw z (split g.constant (λ y. rw y) (λ y. rw y)))

  verdict_told : (w : List Statement) (s i : ℕ) (k : List Nested) (t : Token)
      → verdict_diags (moved_verdict f (verdict w k t)) (f s) i ≡ map (moved_diag f) (verdict_diags (verdict w k t) s i)
  unfolding verdict
  verdict_told w s i k t = told_moved (nested_of k t.bytes) (global w t.bytes) t.at s i

  typecode_moved : (x : Sense) (s : ℕ) → typecode_diags x (f s) ≡ map (moved_diag f) (typecode_diags x s)
  typecode_moved inactive s = refl
  typecode_moved constant s = refl
  typecode_moved variable s = refl

  variable_moved : (x : Sense) (s : ℕ) → variable_diags x (f s) ≡ map (moved_diag f) (variable_diags x s)
  variable_moved inactive s = refl
  variable_moved constant s = refl
  variable_moved variable s = refl

  floating_moved : (h : Option Hyp) (s : ℕ) → float_diags (map_option (moved_hyp f) h) (f s) ≡ map (moved_diag f) (float_diags h s)
  floating_moved none s = refl
  floating_moved (some (float o e v c)) s = refl
  floating_moved (some (essential o e x)) s = refl

  if_none_moved : (d e : List Diag) → if_none (map (moved_diag f) d) (map (moved_diag f) e) ≡ map (moved_diag f) (if_none d e)
  if_none_moved [] e = refl
  if_none_moved (x ∷ d) e = refl

  missing_moved : (h : Option Hyp) (s i : ℕ) → missing (map_option (moved_hyp f) h) (f s) i ≡ map (moved_diag f) (missing h s i)
  missing_moved none s i = refl
  missing_moved (some h) s i = refl

  symbol_moved : (x : Sense) (h : Option Hyp) (s i : ℕ)
      → symbol_diags x (map_option (moved_hyp f) h) (f s) i ≡ map (moved_diag f) (symbol_diags x h s i)
  symbol_moved inactive h s i = refl
  symbol_moved constant h s i = refl
  symbol_moved variable h s zero = refl
  symbol_moved variable h s (suc i) = missing_moved h s (suc i)

  first_moved : (l : List Token) (n : List ℕ) → first_index (map (moved_token f) l) n ≡ first_index l n
  unfolding first_index
  first_moved [] n = refl
  first_moved (t ∷ l) n = rw (first_moved l n)

  distinct_moved : (x : Sense) (j s i : ℕ) → disjoint_diags x j (f s) i ≡ map (moved_diag f) (disjoint_diags x j s i)
  distinct_moved inactive j s i = refl
  distinct_moved constant j s i = refl
  distinct_moved variable j s i = split (ltb j i) (λ z. rw z) (λ z. rw z)

  token_found : (i : ℕ) (m : List Token) → get_or (map (moved_token f) m) i (moved_token f no_token) ≡ moved_token f (get_or m i no_token)
  token_found i [] = refl
  token_found zero (t ∷ m) = refl
  token_found (suc i) (t ∷ m) = token_found i m

-- ---- a rising function
module _ {f : ℕ → ℕ} {n : ℕ} (r : Rises f n) where
  pub token_moved : (s : Statement) (i : ℕ) → token (moved_statement f s) i ≡ moved_token f (token s i)
  token_moved s i =
      ap (λ (o : ℕ). get_or (map (moved_token f) s.math) i (record { at = o; bytes = [] })) (sym r.first)
      ∙ token_found f i s.math

  redeclared_moved : (g : Option Declared) (s i : ℕ) (t : Token)
      → redeclared (map_option (moved_declared f) g) (f s) i (moved_token f t) ≡ map (moved_diag f) (redeclared g s i t)
  redeclared_moved none s i t = refl
  redeclared_moved (some g) s i t = rw (same_moved r g.at t.at) (split (eqb g.at t.at) (λ z. rw z) (λ z. rw z))

  label_by : (o : Option Token) (s : Statement)
      → label_diags (map_option (moved_token f) o) (moved_statement f s) ≡ map (moved_diag f) (label_diags o s)
  label_by none s = refl
  label_by (some b) s = rw (same_moved r b.at s.at) (split (eqb b.at s.at) (λ z. rw z) (λ z. rw z))

  pub label_moved : (w : List Statement) (s : Statement)
      → check_label (map (moved_statement f) w) (moved_statement f s) ≡ map (moved_diag f) (check_label w s)
  unfolding check_label
  label_moved w s = rw (owner_moved f w s.label) (label_by (owner w s.label) s)

  module _ {w : List Statement} (a : All (PlacedBelow n) w) where
    outer_one : (s i : ℕ) (t : Token)
        → outer_token (map (moved_statement f) w) (f s) i (moved_token f t) ≡ map (moved_diag f) (outer_token w s i t)
    outer_one s i t =
        rw (owner_moved f w t.bytes, global_moved r a t.bytes, clash_moved f (owner w t.bytes) s i, redeclared_moved (global w t.bytes) s i t)
        (sym (map_append (moved_diag f) (clash (owner w t.bytes) s i) (redeclared (global w t.bytes) s i t)))

    pub outer_moved : (s : Statement)
        → check_outer (map (moved_statement f) w) (moved_statement f s) ≡ map (moved_diag f) (check_outer w s)
    unfolding check_outer
    outer_moved s =
        each_moved f (outer_token (map (moved_statement f) w) (f s.at)) (outer_token w s.at) (outer_one s.at) s.math 0

    pub diags_moved : (s e : ℕ) (l : List Token) (i : ℕ) (k : List Nested)
        → nested_diags (map (moved_statement f) w) (f s) (moved_end f e) (map (moved_token f) l) i (map (moved_nested f) k)
        ≡ map (moved_diag f) (nested_diags w s e l i k)
    unfolding nested_diags
    diags_moved s e [] i k = refl
    diags_moved s e (t ∷ l) i k =
        let c = clash (owner w t.bytes) s i in
        let v = verdict_diags (verdict w k t) s i in
        let m = nested_diags w s e l (suc i) (k ++ records w e k t) in
        rw (
          owner_moved f w t.bytes,
          clash_moved f (owner w t.bytes) s i,
          verdict_moved r a k t,
          verdict_told f w s i k t,
          records_moved r a e k t,
          ← (map_append (moved_nested f) k (records w e k t)),
          diags_moved s e l (suc i) (k ++ records w e k t),
        )
        (ap (λ (z : List Diag). z ++ map (moved_diag f) m) (sym (map_append (moved_diag f) c v))
        ∙ sym (map_append (moved_diag f) (c ++ v) m))

    pub expression_moved : (v : State) (s : Statement)
        → check_expression (map (moved_statement f) w) (moved_state f v) (moved_statement f s) ≡ map (moved_diag f) (check_expression w v s)
    unfolding check_expression
    expression_moved v s =
        each_moved f (symbol_token (map (moved_statement f) w) (moved_state f v) (f s.at)) (symbol_token w v s.at)
        (λ i t. rw (sense_moved r a v t, float_moved f v.hyps t.bytes) (symbol_moved f (sense w v t) (float_of v.hyps t.bytes) s.at i))
        s.math 0

    pub disjoint_moved : (v : State) (s : Statement)
        → check_disjoint (map (moved_statement f) w) (moved_state f v) (moved_statement f s) ≡ map (moved_diag f) (check_disjoint w v s)
    unfolding check_disjoint
    disjoint_moved v s =
        each_moved f (disjoint_token (map (moved_statement f) w) (moved_state f v) (moved_statement f s)) (disjoint_token w v s)
        (λ i t. rw (sense_moved r a v t, first_moved f s.math t.bytes) (distinct_moved f (sense w v t) (first_index s.math t.bytes) s.at i))
        s.math 0

    pub float_checked : (v : State) (s : Statement)
        → check_float (map (moved_statement f) w) (moved_state f v) (moved_statement f s) ≡ map (moved_diag f) (check_float w v s)
    unfolding check_float
    float_checked v s =
        let b = typecode_diags (sense w v (token s 0)) s.at in
        let c = variable_diags (sense w v (token s 1)) s.at in
        rw (
          token_moved s 0,
          token_moved s 1,
          sense_moved r a v (token s 0),
          sense_moved r a v (token s 1),
          float_moved f v.hyps (token s 1).bytes,
          typecode_moved f (sense w v (token s 0)) s.at,
          variable_moved f (sense w v (token s 1)) s.at,
          floating_moved f (float_of v.hyps (token s 1).bytes) s.at,
          ← (map_append (moved_diag f) b c),
        )
        (if_none_moved f (b ++ c) (float_diags (float_of v.hyps (token s 1).bytes) s.at))
