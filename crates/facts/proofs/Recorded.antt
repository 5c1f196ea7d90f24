-- Whatever a statement records has that statement's end; so in a state the ends are those of earlier statements, and
-- what is still active of it nests.
use mathlib.Core.Path.{◌≡◌, refl}
use mathlib.Core.List.{List, [], ◌∷◌, ◌++◌}
use Prim.Native.Nat.{ℕ, zero, suc, ◌<◌, ◌≤◌}
use native.Mathlib.Nat.{le_refl}
use native.Mathlib.Omega.{arith}
use lib.ListN.{length}
use Rattle.paper.specs.Tokens.{Token}
use Rattle.paper.specs.Statements.{Statement}
use Rattle.paper.specs.State.{Nested, hyp_end, State, nothing, plus}
use Rattle.paper.specs.Checks.{Verdict, against, record_it, verdict, recorded_by, records, nested_records}
use Rattle.paper.specs.Give.{give}
use Rattle.paper.proofs.Alls.{All, all_none, all_more, all_map, all_append, Two, two_none, two_more, two_append}
use Rattle.reader.specs.Rows.{stmt}
use Rattle.facts.specs.Facts.{Facts}
use Rattle.facts.specs.States.{state_at, view_at, given_at}
use Rattle.facts.proofs.Gives.{give_by_cases}
use Rattle.facts.proofs.States.{state_start, state_suc}

-- of the ends of all that is recorded
pub record Ends (P : ℕ → Type 0) (x : State) : Type 0 where
  pub nested : All (λ y. P y.end) x.nested
  pub hyps : All (λ y. P (hyp_end y)) x.hyps
  pub disjoints : All (λ y. P y.end) x.disjoints

ends_none : (P : ℕ → Type 0) → Ends P nothing
ends_none P = record { nested = all_none; hyps = all_none; disjoints = all_none }

pub ends_map : {P Q : ℕ → Type 0} {x : State} → ((e : ℕ) → P e → Q e) → Ends P x → Ends Q x
ends_map f h =
    record {
      nested = all_map (λ y. f y.end) h.nested;
      hyps = all_map (λ y. f (hyp_end y)) h.hyps;
      disjoints = all_map (λ y. f y.end) h.disjoints;
    }

ends_plus : {P : ℕ → Type 0} {x y : State} → Ends P x → Ends P y → Ends P (plus x y)
ends_plus h k =
    record {
      nested = all_append h.nested k.nested;
      hyps = all_append h.hyps k.hyps;
      disjoints = all_append h.disjoints k.disjoints;
    }

-- ---- what one statement records
module _ (w : List Statement) (s : Statement) where
  record_ends : (v : Verdict) (t : Token) → All (λ y. y.end ≡ s.end) (recorded_by v s.end t)
  record_ends (against k o) t = all_none
  record_ends record_it t = all_more refl all_none

  nested_ends : (m : List Token) (known : List Nested) → All (λ y. y.end ≡ s.end) (nested_records w s.end m known)
  unfolding nested_records records
  nested_ends [] known = all_none
  nested_ends (t ∷ m) known =
      all_append (record_ends (verdict w known t) t) (nested_ends m (known ++ records w s.end known t))

  pub give_ends : (v : State) → Ends (λ e. e ≡ s.end) (give w v s).records
  give_ends v =
      give_by_cases (Ends (λ e. e ≡ s.end)) w v s
      (record {
        without = ends_none (λ e. e ≡ s.end);
        variables = λ k o. record { nested = nested_ends s.math v.nested; hyps = all_none; disjoints = all_none };
        apart = λ k d. record { nested = all_none; hyps = all_none; disjoints = all_more refl all_none };
        floating = λ k p d. record { nested = all_none; hyps = all_more refl all_none; disjoints = all_none };
        logical = λ k p d. record { nested = all_none; hyps = all_more refl all_none; disjoints = all_none };
      })

pub row_ends : (l : List Statement) (k : ℕ) → Ends (λ e. e ≡ (stmt l k).end) (given_at l k).records
unfolding given_at
row_ends l k = give_ends l (stmt l k) (view_at l k)

-- ---- what a state holds: each end is that of an earlier statement
pub record Origin (l : List Statement) (k e : ℕ) : Type 0 where
  pub row : ℕ
  pub earlier : row < k
  pub same : e ≡ (stmt l row).end

pub origins : (l : List Statement) (k : ℕ) → Ends (Origin l k) (state_at l k)
origins l zero = rw (state_start l) (ends_none (Origin l 0))
origins l (suc k) =
    rw (state_suc l k)
    (ends_plus
    (ends_map (λ e r. record { row = r.row; earlier = (let h = r.earlier in omega arith); same = r.same }) (origins l k))
    (ends_map (λ e r. record { row = k; earlier = le_refl (suc k); same = r }) (row_ends l k)))

-- ---- from an offset o on that no statement so far stands after: what is active at o holds all that is recorded later
abbrev pub Inner : {A : Type 0} → (A → ℕ) → ℕ → A → A → Type 0
Inner end o x y = o < end x → end y ≤ end x

pub record Falls (o : ℕ) (x : State) : Type 0 where
  pub nested : Two (Inner (λ y. y.end) o) x.nested
  pub hyps : Two (Inner hyp_end o) x.hyps
  pub disjoints : Two (Inner (λ y. y.end) o) x.disjoints

same_falls : {A : Type 0} (end : A → ℕ) (o e : ℕ) {m : List A} → All (λ y. end y ≡ e) m → Two (Inner end o) m
same_falls end o e all_none = two_none
same_falls end o e (all_more {x = x} p r) =
    two_more {x = x} (all_map (λ y q h. omega (arith, p, q)) r) (same_falls end o e r)

module _ {t : List ℕ} {l : List Statement} (h : Facts t l) (k o : ℕ) (m : k < length l) (a : (stmt l k).at ≤ o) where
  more_falls :
      {A : Type 0} (end : A → ℕ) {x y : List A}
      → Two (Inner end o) x → All (λ z. Origin l k (end z)) x → All (λ z. end z ≡ (stmt l k).end) y → Two (Inner end o) (x ++ y)
  more_falls end p q r =
      two_append p (same_falls end o (stmt l k).end r)
      (all_map
      (λ z u. all_map
      (λ v e g. let n = h.inner u.row k u.earlier m (omega (arith, u.same)) in omega (arith, e, u.same))
      r)
      q)

pub falls :
    {t : List ℕ} {l : List Statement}
    → Facts t l → (k o : ℕ) → k ≤ length l → ((j : ℕ) → j < k → (stmt l j).at ≤ o) → Falls o (state_at l k)
falls {l = l} h zero o m a = rw (state_start l) (record { nested = two_none; hyps = two_none; disjoints = two_none })
falls {l = l} h (suc k) o m a =
    let f = falls h k o (omega arith) (λ j g. a j (omega arith)) in
    let q = origins l k in
    let r = row_ends l k in
    let n = a k (le_refl (suc k)) in
    rw (state_suc l k)
    (record {
      nested = more_falls h k o m n (λ y. y.end) f.nested q.nested r.nested;
      hyps = more_falls h k o m n hyp_end f.hyps q.hyps r.hyps;
      disjoints = more_falls h k o m n (λ y. y.end) f.disjoints q.disjoints r.disjoints;
    })
