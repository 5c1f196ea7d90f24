-- Each variable of an accepted expression has an active `$f` there, and it is still active wherever the expression is.
-- From ends that nest.
use mathlib.Core.Path.{◌≡◌, refl, sym, ap, ◌∙◌}
use mathlib.Core.Bool.{true}
use mathlib.Core.List.{List, [], ◌∷◌, ◌++◌, map, append-nil}
use mathlib.Core.Option.{none}
use Prim.Native.Nat.{ℕ, zero, suc, ◌<◌, ◌≤◌}
use native.Mathlib.Omega.{arith}
use lib.ListN.{length}
use borrow.Author.Tests.{lt-ltb, ltb-true}
use Rattle.paper.specs.Base.{gather}
use Rattle.paper.specs.Tokens.{Token}
use Rattle.paper.specs.Statements.{Statement}
use Rattle.paper.specs.State.{Formula, Hyp, hyp_end, State, active_hyp, view, float_name, float_of, Sense, inactive, constant, variable, sense}
use Rattle.paper.specs.Checks.{diag, symbol_diags, symbol_token, check_expression}
use Rattle.paper.specs.Variables.{symbol_of, symbol, formula, member, see, sights, variable_in, variables_of, formula_in, mandatory}
use Rattle.paper.proofs.Tests.{split, by_option}
use Rattle.paper.proofs.Alls.{All, all_none, all_more, all_map, all_both, all_append, all_keep, all_kept, Any, any_map, any_left, any_keep, any_unkeep, latest_any, any_latest}
use Rattle.paper.proofs.Lists.{gather_append}
use Rattle.reader.specs.Rows.{stmt}
use Rattle.facts.specs.Facts.{Facts}
use Rattle.facts.specs.States.{state_at, view_at, given_at}
use Rattle.facts.proofs.Gives.{give_by_cases}
use Rattle.facts.proofs.States.{state_start, state_suc}
use Rattle.facts.proofs.Recorded.{origins}
use Rattle.history.proofs.Static.{Each, each_nil, each_cons, each_none, each_drop}

-- x has a `$f` in v
abbrev pub Floating : State → List ℕ → Type 0
Floating v x = float_of v.hyps x ≡ none → ⊥

-- ---- at the expression itself
module _ (l : List Statement) (v : State) where
  token_floats :
      (s i : ℕ) (t : Token) (z : Sense)
      → sense l v t ≡ z → symbol_token l v s (suc i) t ≡ [] → All (Floating v) (variable_in (symbol_of z t.bytes))
  token_floats s i t inactive q e = all_none
  token_floats s i t constant q e = all_none
  token_floats s i t variable q e =
      let f : Floating v t.bytes = λ n.
      (let z : diag 4 s (suc i) 0 ≡ [] = sym (ap (λ x. symbol_diags x (float_of v.hyps t.bytes) s (suc i)) q ∙ rw n) ∙ e in
      let y : ◌≡◌ {A = ℕ} 0 1 = cc in omega arith)
      in
      all_more f all_none

  body_floats :
      (s : ℕ) {i : ℕ} {m : List Token}
      → Each (λ j t. symbol_token l v s j t ≡ []) (suc i) m → All (Floating v) (gather variable_in (map (symbol l v) m))
  unfolding gather
  body_floats s each_nil = all_none
  body_floats s {i} (each_cons {t = t} p r) =
      all_append (token_floats s i t (sense l v t) refl p) (body_floats s r)

  pub expression_floats : (s : Statement) → check_expression l v s ≡ [] → All (Floating v) (variables_of (formula l v s))
  unfolding check_expression formula variables_of
  expression_floats s e = body_floats s.at (each_drop (each_none (symbol_token l v s.at) s.math 0 e))

-- ---- later: a `$f` that lasts up to e or longer
abbrev Lasting : List Hyp → ℕ → List ℕ → Type 0
Lasting h e x = Any (λ f. (float_name x f ≡ true) × (e ≤ hyp_end f)) h

abbrev Covered : List Hyp → Hyp → Type 0
Covered h e = All (Lasting h (hyp_end e)) (gather variables_of (formula_in e))

covered_left : {h : List Hyp} (m : List Hyp) (e : Hyp) → Covered h e → Covered (h ++ m) e
covered_left m e c = all_map (λ x r. any_left m r) c

module _ {t : List ℕ} {l : List Statement} (h : Facts t l) (k : ℕ) (m : k < length l) where
  -- what is active at a statement ends no earlier
  ends_after : All (λ z. (stmt l k).end ≤ hyp_end z) (view_at l k).hyps
  unfolding view_at view
  ends_after =
      all_map
      (λ z p.
      let u = p.0 in
      let a = ltb-true (stmt l k).at (hyp_end z) p.1 in
      omega (arith, u.same, h.inner u.row k u.earlier m (omega (arith, u.same))))
      (all_both (all_keep (active_hyp (stmt l k).at) (origins l k).hyps) (all_kept (active_hyp (stmt l k).at) (state_at l k).hyps))

  lasting_new : (x : List ℕ) → Floating (view_at l k) x → Lasting (state_at l k).hyps (stmt l k).end x
  unfolding view_at view float_of
  lasting_new x f =
      by_option (float_of (view_at l k).hyps x)
      (λ y e. any_unkeep (active_hyp (stmt l k).at) (state_at l k).hyps (latest_any (float_name x) ends_after e))
      (λ e. absurd (f e))

  new_covered : All (Covered (state_at l k).hyps) (given_at l k).records.hyps
  unfolding given_at gather
  new_covered =
      give_by_cases (λ r. All (Covered (state_at l k).hyps) r.hyps) l (view_at l k) (stmt l k)
      (record {
        without = all_none;
        variables = λ a o. all_none;
        apart = λ a d. all_none;
        floating = λ a p d. all_more all_none all_none;
        logical = λ a p d. all_more (all_append (all_map lasting_new (expression_floats l (view_at l k) (stmt l k) d)) all_none) all_none;
      })

covered : {t : List ℕ} {l : List Statement} → Facts t l → (k : ℕ) → k ≤ length l → All (Covered (state_at l k).hyps) (state_at l k).hyps
covered {l = l} h zero m = rw (state_start l) all_none
covered {l = l} h (suc k) m =
    rw (state_suc l k)
    (all_append
    (all_map (covered_left (given_at l k).records.hyps) (covered h k (omega arith)))
    (all_map (covered_left (given_at l k).records.hyps) (new_covered h k m)))

-- ---- where hypotheses are active, so are the `$f` of their variables
pub hyps_float :
    {t : List ℕ} {l : List Statement}
    → Facts t l → (k o : ℕ) → k ≤ length l
    → All (λ e. All (Floating (view (state_at l k) o)) (gather variables_of (formula_in e))) (view (state_at l k) o).hyps
unfolding view float_of
hyps_float {l = l} h k o m =
    all_map
    (λ e p. all_map
    (λ x r. any_latest (float_name x)
    (any_keep (active_hyp o)
    (any_map (λ f q. (q.0, lt-ltb o (hyp_end f) (let a = ltb-true o (hyp_end e) p.1 in let b = q.1 in omega arith))) r)))
    p.0)
    (all_both (all_keep (active_hyp o) (covered h k m)) (all_kept (active_hyp o) (state_at l k).hyps))

-- ---- the mandatory variables of an accepted assertion
sights_all : {P : List ℕ → Type 0} {m : List (List ℕ)} (l : List (List ℕ)) → All P m → All P l → All P (sights m l)
unfolding sights
sights_all l all_none h = h
sights_all l (all_more {x = n} p r) h =
    sights_all (see l n) r
    (split (member n l) (λ e. rw e h) (λ e. rw e (all_append h (all_more p all_none))))

gather_one : (f : Formula) → gather variables_of (f ∷ []) ≡ variables_of f
unfolding gather
gather_one f = append-nil (variables_of f)

gather_all :
    {P : List ℕ → Type 0} {h : List Hyp}
    → All (λ e. All P (gather variables_of (formula_in e))) h → All P (gather variables_of (gather formula_in h))
unfolding gather
gather_all all_none = all_none
gather_all (all_more {x = e} {l = h} p r) =
    rw (gather_append variables_of (formula_in e) (gather formula_in h)) (all_append p (gather_all r))

pub mandatory_floats :
    {t : List ℕ} {l : List Statement}
    → Facts t l → (k : ℕ) → k < length l → check_expression l (view_at l k) (stmt l k) ≡ []
    → All (Floating (view_at l k)) (mandatory (view_at l k).hyps (formula l (view_at l k) (stmt l k)))
unfolding mandatory view_at
mandatory_floats {l = l} h k m e =
    let v = view (state_at l k) (stmt l k).at in
    let f = formula l v (stmt l k) in
    let b : gather variables_of (f ∷ []) ≡ variables_of f = gather_one f in
    sights_all []
    (rw (gather_append variables_of (gather formula_in v.hyps) (f ∷ []))
    (all_append (gather_all (hyps_float h k (stmt l k).at (omega arith))) (rw b (expression_floats l v (stmt l k) e))))
    all_none
