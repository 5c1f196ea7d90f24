-- The formula of an accepted `$e`, `$a` or `$p` is the static one: a name is a constant there exactly when its global
-- declaration is a `$c`.
use mathlib.Core.Path.{◌≡◌, refl, sym, ap, ◌∙◌}
use mathlib.Core.Bool.{false}
use mathlib.Core.List.{List, [], ◌∷◌, ◌++◌, map}
use mathlib.Core.Option.{Option, none, some}
use Prim.Native.Nat.{ℕ, zero, suc}
use native.Mathlib.Omega.{arith}
use lib.Dec.{ltb}
use lib.ListN.{drop}
use Rattle.paper.specs.Tokens.{Token}
use Rattle.paper.specs.Statements.{Statement}
use Rattle.paper.specs.Names.{Declared, global}
use Rattle.paper.specs.State.{Nested, State, view, active_nested, nested_name, nested_of, inactive, by_nested, float_of, sense}
use Rattle.paper.specs.Checks.{Diag, diag, symbol_diags, Verdict, against, record_it, verdict, recorded_by, records, nested_records, each, symbol_token, check_expression}
use Rattle.paper.specs.Variables.{symbol_of, symbol, formula}
use Rattle.paper.proofs.Tests.{split, by_option, same_eq}
use Rattle.paper.proofs.Alls.{All, all_none, all_more, all_append, all_keep, latest_all}
use Rattle.reader.specs.Rows.{stmt}
use Rattle.facts.specs.States.{state_at, view_at, given_at}
use Rattle.facts.proofs.Gives.{give_by_cases}
use Rattle.facts.proofs.States.{state_start, state_suc}
use Rattle.facts.proofs.Single.{recorded_free}
use Rattle.sight.specs.Static.{is_constant, constant_name, static_symbol, static}

constant_is : (l : List Statement) (x : List ℕ) (g : Declared) → global l x ≡ some g → constant_name l x ≡ g.constant
unfolding constant_name
constant_is l x g e = rw e

-- ---- a recorded nested `$v` token has a name that is no constant
module _ (w : List Statement) (e : ℕ) where
  recorded_variable :
      (known : List Nested) (t : Token) (v : Verdict)
      → verdict w known t ≡ v → All (λ x. constant_name w x.name ≡ false) (recorded_by v e t)
  unfolding constant_name
  recorded_variable known t (against k o) q = all_none
  recorded_variable known t record_it q =
      let f = recorded_free w known t q in
      let c : is_constant (global w t.bytes) ≡ false = by_option (global w t.bytes) (λ g r. rw r (f.variable g r)) (λ r. rw r) in
      all_more {x = record { name = t.bytes; at = t.at; end = e }} c all_none

  nested_variables :
      (m : List Token) (known : List Nested) → All (λ x. constant_name w x.name ≡ false) (nested_records w e m known)
  unfolding nested_records records
  nested_variables [] known = all_none
  nested_variables (t ∷ m) known =
      all_append (recorded_variable known t (verdict w known t) refl) (nested_variables m (known ++ records w e known t))

pub nested_names : (l : List Statement) (k : ℕ) → All (λ x. constant_name l x.name ≡ false) (state_at l k).nested
unfolding given_at
nested_names l zero = rw (state_start l) all_none
nested_names l (suc k) =
    let s = stmt l k in
    let v = view_at l k in
    rw (state_suc l k)
    (all_append (nested_names l k)
    (give_by_cases (λ r. All (λ x. constant_name l x.name ≡ false) r.nested) l v s
    (record {
      without = all_none;
      variables = λ a o. nested_variables l s.end s.math v.nested;
      apart = λ a d. all_none;
      floating = λ a p d. all_none;
      logical = λ a p d. all_none;
    })))

pub view_names : (l : List Statement) (k o : ℕ) → All (λ x. constant_name l x.name ≡ false) (view (state_at l k) o).nested
unfolding view
view_names l k o = all_keep (active_nested o) (nested_names l k)

-- ---- the symbol of a token that is active
module _ (l : List Statement) (v : State) (h : All (λ x. constant_name l x.name ≡ false) v.nested) where
  -- a token whose name is a nested `$v` that counts
  known_variable : (t : Token) (x : Nested) → nested_of v.nested t.bytes ≡ some x → constant_name l t.bytes ≡ false
  unfolding nested_of
  known_variable t x e =
      let r = latest_all (nested_name t.bytes) h e in
      rw (same_eq x.name t.bytes r.1) at r.0

  by_known_symbol :
      (t : Token) (o : Option Nested)
      → nested_of v.nested t.bytes ≡ o → (by_nested o ≡ inactive → ⊥)
      → symbol_of (by_nested o) t.bytes ≡ static_symbol l t
  by_known_symbol t none e n = absurd (n refl)
  by_known_symbol t (some x) e n = rw (known_variable t x e)

  pub symbol_static : (t : Token) → (sense l v t ≡ inactive → ⊥) → symbol l v t ≡ static_symbol l t
  unfolding sense
  symbol_static t n =
      by_option (global l t.bytes)
      (λ g e. split (ltb g.at t.at)
      (λ a. let c : constant_name l t.bytes ≡ g.constant = constant_is l t.bytes g e in
      split g.constant (λ b. rw (e, a, c, b)) (λ b. rw (e, a, c, b)))
      (λ a. rw (e, a) (by_known_symbol t (nested_of v.nested t.bytes) refl (rw (e, a) at n))))
      (λ e. rw e (by_known_symbol t (nested_of v.nested t.bytes) refl (rw e at n)))

-- ---- the tokens of a check that found nothing
none_both : (a b : List Diag) → a ++ b ≡ [] → (a ≡ []) × (b ≡ [])
none_both [] b e = (refl, e)
none_both (x ∷ a) b e = let y : ◌≡◌ {A = ℕ} 0 1 = cc in absurd (omega arith)

-- of each token and its index
pub data Each (P : ℕ → Token → Type 0) : ℕ → List Token → Type 0 where
  each_nil : {i : ℕ} → Each P i []
  each_cons : {i : ℕ} {t : Token} {m : List Token} → P i t → Each P (suc i) m → Each P i (t ∷ m)

pub each_none : (f : ℕ → Token → List Diag) (m : List Token) (i : ℕ) → each f m i ≡ [] → Each (λ j t. f j t ≡ []) i m
unfolding each
each_none f [] i e = each_nil
each_none f (t ∷ m) i e =
    let r = none_both (f i t) (each f m (suc i)) e in
    each_cons r.0 (each_none f m (suc i) r.1)

pub each_drop : {P : ℕ → Token → Type 0} {m : List Token} → Each P 0 m → Each P 1 (drop 1 m)
each_drop each_nil = each_nil
each_drop (each_cons p r) = r

-- a token that got no diagnostic is active
active_token :
    (l : List Statement) (v : State) (s i : ℕ) (t : Token) → symbol_token l v s i t ≡ [] → sense l v t ≡ inactive → ⊥
active_token l v s i t e q =
    let z : diag 2 s i 0 ≡ [] = sym (ap (λ x. symbol_diags x (float_of v.hyps t.bytes) s i) q) ∙ e in
    let y : ◌≡◌ {A = ℕ} 0 1 = cc in omega arith

module _ (l : List Statement) (v : State) (h : All (λ x. constant_name l x.name ≡ false) v.nested) where
  body_static :
      (s : ℕ) {i : ℕ} {m : List Token}
      → Each (λ j t. symbol_token l v s j t ≡ []) i m → map (symbol l v) m ≡ map (static_symbol l) m
  body_static s each_nil = refl
  body_static s (each_cons {i = i} {t = t} p r) =
      rw (symbol_static l v h t (active_token l v s i t p), body_static s r)

  pub static_formula : (s : Statement) → check_expression l v s ≡ [] → formula l v s ≡ static l s
  unfolding check_expression formula static
  static_formula s e =
      let b = body_static s.at (each_drop (each_none (symbol_token l v s.at) s.math 0 e)) in
      rw b

-- an accepted expression has the static formula
pub formula_static :
    (l : List Statement) (k : ℕ)
    → check_expression l (view_at l k) (stmt l k) ≡ [] → formula l (view_at l k) (stmt l k) ≡ static l (stmt l k)
unfolding view_at
formula_static l k e =
    static_formula l (view (state_at l k) (stmt l k).at) (view_names l k (stmt l k).at) (stmt l k) e
