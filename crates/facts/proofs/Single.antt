-- Of one name at most one recorded nested `$v` token is active, and of one variable at most one `$f`, at any offset at
-- or after the statements so far; so the latest recorded one, if it is active, is the one that counts.
use mathlib.Core.Path.{◌≡◌, refl, sym, ◌∙◌}
use mathlib.Core.Bool.{Bool, true, false}
use mathlib.Core.List.{List, [], ◌∷◌, ◌++◌}
use mathlib.Core.Option.{Option, none, some}
use Prim.Native.Nat.{ℕ, zero, suc, ◌<◌, ◌≤◌}
use native.Mathlib.Nat.{le_refl}
use native.Mathlib.Omega.{arith}
use lib.Dec.{ltb}
use borrow.Author.Tests.{ltb-false, le-ltb}
use Rattle.paper.specs.Base.{keep, latest}
use Rattle.paper.specs.Tokens.{Token}
use Rattle.paper.specs.Statements.{Statement}
use Rattle.paper.specs.Names.{Declared, global}
use Rattle.paper.specs.State.{Nested, Hyp, float, hyp_end, State, active_nested, active_hyp, view, nested_name, nested_of, float_name, float_of, sense}
use Rattle.paper.specs.Checks.{Diag, Verdict, against, record_it, by_known, verdict, recorded_by, records, nested_records, token, typecode_diags, variable_diags, check_float}
use Rattle.paper.specs.Give.{give}
use Rattle.paper.proofs.Tests.{split, by_option, clash, same_eq, eq_same}
use Rattle.paper.proofs.Options.{none_some, some_same}
use Rattle.paper.proofs.Alls.{All, all_map, all_of, all_unkeep, Joins, joins_none, joins_one, joins_then, two_joins, Two, two_none, two_map, passing, latest_none, latest_keep}
use Rattle.reader.specs.Rows.{stmt}
use Rattle.facts.specs.States.{state_at, view_at, given_at}
use Rattle.facts.proofs.Gives.{by_diags, give_by_cases}
use Rattle.facts.proofs.States.{state_start, state_suc}

-- ---- a token of a nested `$v` that is recorded: none of its name is active; its global declaration, if any, is a
-- later `$v`
pub record Free (w : List Statement) (known : List Nested) (t : Token) : Type 0 where
  pub new : nested_of known t.bytes ≡ none
  pub later : (g : Declared) → global w t.bytes ≡ some g → ltb g.at t.at ≡ false
  pub variable : (g : Declared) → global w t.bytes ≡ some g → g.constant ≡ false

not_against : {P : Type 0} {k o : ℕ} → against k o ≡ record_it → P
not_against e = let y : ◌≡◌ {A = ℕ} 0 1 = cc in absurd (omega arith)

known_none : (o : Option Nested) → by_known o ≡ record_it → o ≡ none
known_none none e = refl
known_none (some x) e = not_against e

pub recorded_free : (w : List Statement) (known : List Nested) (t : Token) → verdict w known t ≡ record_it → Free w known t
unfolding verdict
recorded_free w known t e =
    by_option (global w t.bytes)
    (λ g q. split (ltb g.at t.at)
    (λ a. not_against (rw (q, a) at e))
    (λ a. split g.constant
    (λ c. not_against (rw (q, a, c) at e))
    (λ c. record {
      new = known_none (nested_of known t.bytes) (rw (q, a, c) at e);
      later = λ f r. rw (some_same (sym q ∙ r)) at a;
      variable = λ f r. rw (some_same (sym q ∙ r)) at c;
    })))
    (λ q. record {
      new = known_none (nested_of known t.bytes) (rw q at e);
      later = λ g r. absurd (none_some (sym q ∙ r));
      variable = λ g r. absurd (none_some (sym q ∙ r));
    })

-- ---- two of different names; and of one name only if the earlier one is past
abbrev pub Differ : {A : Type 0} → (List ℕ → A → Bool) → A → A → Type 0
Differ name x y = (n : List ℕ) → name n x ≡ true → name n y ≡ true → ⊥

abbrev pub Past : {A : Type 0} → (List ℕ → A → Bool) → (A → ℕ) → ℕ → A → A → Type 0
Past name end o x y = (n : List ℕ) → name n x ≡ true → name n y ≡ true → end x ≤ o

module _ {A : Type 0} (name : List ℕ → A → Bool) (end : A → ℕ) where
  -- what differs from all that is active at a joins what is recorded
  past_joins :
      {a o : ℕ} (l m : List A)
      → a ≤ o → Joins (Differ name) (keep (λ x. ltb a (end x)) l) m → Joins (Past name end o) l m
  past_joins {a} {o} l m h j =
      record {
        two = two_map (λ x y d n p q. absurd (d n p q)) j.two;
        across = all_map
            (λ x f. split (ltb a (end x))
            (λ e. all_map (λ y d n p q. absurd (d n p q)) (f e))
            (λ e. all_of m (λ y n p q. omega (arith, ltb-false a (end x) e))))
            (all_unkeep (λ x. ltb a (end x)) l j.across);
      }

  past_latest :
      (l : List A) (o : ℕ) (n : List ℕ)
      → Two (Past name end o) l → latest (name n) (keep (λ x. ltb o (end x)) l) ≡ passing (λ x. ltb o (end x)) (latest (name n) l)
  past_latest l o n h =
      latest_keep (name n) (λ x. ltb o (end x)) (two_map (λ x y p a b. le-ltb o (end x) (p n a b)) h)

-- ---- what a statement records, against what is active at it
module _ (w : List Statement) (e : ℕ) where
  new_differ :
      (known : List Nested) (t : Token)
      → Free w known t
      → All (λ x. Differ nested_name x (record { name = t.bytes; at = t.at; end = e })) known
  unfolding nested_of
  new_differ known t f =
      all_map (λ x q n a b. clash (sym (eq_same _ _ (same_eq _ _ a ∙ sym (same_eq _ _ b))) ∙ q))
      (latest_none (nested_name t.bytes) known f.new)

  token_joins :
      (known : List Nested) (t : Token) (v : Verdict)
      → verdict w known t ≡ v → Joins (Differ nested_name) known (recorded_by v e t)
  token_joins known t (against k o) q = joins_none (Differ nested_name) known
  token_joins known t record_it q =
      joins_one (record { name = t.bytes; at = t.at; end = e }) (new_differ known t (recorded_free w known t q))

  nested_joins :
      (m : List Token) (known : List Nested)
      → Joins (Differ nested_name) known (nested_records w e m known)
  unfolding nested_records records
  nested_joins [] known = joins_none (Differ nested_name) known
  nested_joins (t ∷ m) known =
      joins_then (token_joins known t (verdict w known t) refl) (nested_joins m (known ++ records w e known t))

-- a `$f` that is accepted: its variable has no active one
float_free : (w : List Statement) (v : State) (s : Statement) → check_float w v s ≡ [] → float_of v.hyps (token s 1).bytes ≡ none
unfolding check_float
float_free w v s e =
    by_diags (typecode_diags (sense w v (token s 0)) s.at ++ variable_diags (sense w v (token s 1)) s.at)
    (λ q. by_option (float_of v.hyps (token s 1).bytes) (λ h r. not_empty (rw (q, r) at e)) (λ r. r))
    (λ x r q. not_empty (rw q at e))
  where
    not_empty : {P : Type 0} {x : Diag} {l : List Diag} → x ∷ l ≡ [] → P
    not_empty z = let y : ◌≡◌ {A = ℕ} 0 1 = cc in absurd (omega arith)

float_differ :
    (h : List Hyp) (o e : ℕ) (x c : List ℕ)
    → float_of h x ≡ none → All (λ y. Differ float_name y (float o e x c)) h
unfolding float_of
float_differ h o e x c q =
    all_map (λ y r n a b. clash (sym (rw (← (same_eq x n b)) at a) ∙ r)) (latest_none (float_name x) h q)

-- recorded r, where v is active
record New (v r : State) : Type 0 where
  nested : Joins (Differ nested_name) v.nested r.nested
  hyps : Joins (Differ float_name) v.hyps r.hyps

give_new : (w : List Statement) (v : State) (s : Statement) → New v (give w v s).records
give_new w v s =
    let n = joins_none (Differ nested_name) v.nested in
    let k = joins_none (Differ float_name) v.hyps in
    give_by_cases (New v) w v s
    (record {
      without = record { nested = n; hyps = k };
      variables = λ a o. record { nested = nested_joins w s.end s.math v.nested; hyps = k };
      apart = λ a d. record { nested = n; hyps = k };
      floating = λ a p d.
          record { nested = n; hyps = joins_one _ (float_differ v.hyps s.at s.end (token s 1).bytes (token s 0).bytes (float_free w v s d)) };
      logical = λ a p d. record { nested = n; hyps = joins_one _ (all_of v.hyps (λ y x b c. clash (sym c))) };
    })

-- ---- the states
pub record Single (o : ℕ) (x : State) : Type 0 where
  pub nested : Two (Past nested_name (λ y. y.end) o) x.nested
  pub hyps : Two (Past float_name hyp_end o) x.hyps

pub single : (l : List Statement) (k o : ℕ) → ((j : ℕ) → j < k → (stmt l j).at ≤ o) → Single o (state_at l k)
unfolding given_at view_at view
single l zero o a = rw (state_start l) (record { nested = two_none; hyps = two_none })
single l (suc k) o a =
    let f = single l k o (λ j g. a j (omega arith)) in
    let n = give_new l (view_at l k) (stmt l k) in
    let b = a k (le_refl (suc k)) in
    rw (state_suc l k)
    (record {
      nested = two_joins f.nested (past_joins nested_name (λ y. y.end) (state_at l k).nested _ b n.nested);
      hyps = two_joins f.hyps (past_joins float_name hyp_end (state_at l k).hyps _ b n.hyps);
    })

-- the latest recorded one, if it is active, is the one that counts
module _ (l : List Statement) (k o : ℕ) (a : (j : ℕ) → j < k → (stmt l j).at ≤ o) (n : List ℕ) where
  pub nested_latest :
      nested_of (view (state_at l k) o).nested n ≡ passing (active_nested o) (nested_of (state_at l k).nested n)
  unfolding nested_of view
  nested_latest = past_latest nested_name (λ y. y.end) (state_at l k).nested o n (single l k o a).nested

  pub float_latest : float_of (view (state_at l k) o).hyps n ≡ passing (active_hyp o) (float_of (state_at l k).hyps n)
  unfolding float_of view
  float_latest = past_latest float_name hyp_end (state_at l k).hyps o n (single l k o a).hyps
