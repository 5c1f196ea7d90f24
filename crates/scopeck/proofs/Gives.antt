-- From what the code of a statement did to what the definitions say that the statement gives.
-- Assumes nothing.
use mathlib.Core.Path.{◌≡◌, refl, ap, ◌∙◌}
use mathlib.Core.Logic.{◌≢◌}
use mathlib.Core.Bool.{Bool, true, false}
use mathlib.Core.List.{List, [], ◌∷◌, ◌++◌, append-nil}
use Prim.Native.Nat.{ℕ, ◌+◌, ◌*◌, ◌<◌, ◌≤◌}
use native.Mathlib.Omega.{arith}
use lib.ListN.{length}
use Rattle.paper.specs.Base.{and, gather}
use Rattle.paper.specs.Statements.{Kind, Statement}
use Rattle.paper.specs.State.{State, nothing}
use Rattle.paper.specs.Checks.{Diag}
use Rattle.paper.specs.Frames.{Frame}
use Rattle.paper.specs.Give as give
use Rattle.paper.specs.Records.{diag_record}
use Rattle.reader.specs.Rows.{stmt}
use Rattle.nameck.specs.Atoms.{atoms}
use Rattle.facts.specs.States.{state_at, view_at, given_at}
use Rattle.facts.proofs.States.{state_next}
use Rattle.history.specs.Accepted.{no_diags, accepted, is_essential, is_disjoint, rows_of}
use Rattle.history.proofs.Active.{rows_next}
use Rattle.stream.specs.Wrote.{Wrote}
use Rattle.slots.specs.Kept.{Kept}
use Rattle.slots.specs.Marks.{Marks}
use Rattle.slots.specs.Stack.{Stack}
use Rattle.slots.proofs.Kept.{kept_wide}
use Rattle.slots.proofs.Slots.{nests_kept, floats_kept, floats_later}
use Rattle.slots.proofs.Stacks.{stack_kept, stack_next}
use Rattle.checks.proofs.Found.{told_length, none_told}
use Rattle.checks.proofs.Ones.{same_told}
use Rattle.scopeck.specs.declared.Scope.{Scope}
use Rattle.scopeck.specs.Scope.{moved, Ready, Given}
use Rattle.scopeck.proofs.Ready.{row_room}

-- ---- the definitions' shapes
pub given_by : (l : List Statement) (k : ℕ) {c : Kind} → (stmt l k).kind ≡ c → given_at l k ≡ give.give_by c l (view_at l k) (stmt l k)
unfolding given_at give.give
given_by l k e = ap (λ (c : Kind). give.give_by c l (view_at l k) (stmt l k)) e

pub unless_some : (d : List Diag) (g : give.Given) → length d ≢ 0 → give.unless d g ≡ give.only d
unless_some [] g h = absurd (h refl)
unless_some (x ∷ d) g h = refl

pub accept_some : (d : List Diag) (r : State) (f : List Frame) → length d ≢ 0 → give.accept d r f ≡ give.only d
accept_some [] r f h = absurd (h refl)
accept_some (x ∷ d) r f h = refl

pub accept_diags : (d : List Diag) (r : State) (f : List Frame) → (give.accept d r f).diags ≡ d
accept_diags [] r f = refl
accept_diags (x ∷ d) r f = refl

pub accept_nothing : (d : List Diag) (f : List Frame) → (give.accept d nothing f).records ≡ nothing
accept_nothing [] f = refl
accept_nothing (x ∷ d) f = refl

not_accepted : (d : List Diag) → length d ≢ 0 → no_diags d ≡ false
not_accepted [] h = absurd (h refl)
not_accepted (x ∷ d) h = refl

and_false : (b : Bool) → and b false ≡ false
and_false true = refl
and_false false = refl

-- ---- a place that moved, or did not
pub told_some : {out out' : List ℕ} {at p : ℕ} (d : List Diag) → Wrote out out' at p (gather diag_record d) → p ≢ at → length d ≢ 0
told_some d w h e = h (omega (arith, w.place, told_length d, e))

pub told_nothing : {out out' : List ℕ} {at p : ℕ} (d : List Diag) → Wrote out out' at p (gather diag_record d) → p ≡ at → d ≡ []
told_nothing d w h = none_told d (omega (arith, w.place, told_length d))

-- ---- what is recorded next
pub nested_next : (l : List Statement) (k : ℕ) {r : State} → (given_at l k).records ≡ r → (state_at l (k + 1)).nested ≡ (state_at l k).nested ++ r.nested
nested_next l k e = ap (λ (x : State). x.nested) (state_next l k) ∙ ap (λ (x : State). (state_at l k).nested ++ x.nested) e

pub hyps_next : (l : List Statement) (k : ℕ) {r : State} → (given_at l k).records ≡ r → (state_at l (k + 1)).hyps ≡ (state_at l k).hyps ++ r.hyps
hyps_next l k e = ap (λ (x : State). x.hyps) (state_next l k) ∙ ap (λ (x : State). (state_at l k).hyps ++ x.hyps) e

module _ {t w : List ℕ} {n : ℕ} {l : List Statement} {st : Scope} {k : ℕ} (b : Ready t w n l st k) where
  pub atoms_fit : length (atoms l) ≤ n
  atoms_fit = omega (arith, b.named.few)

  pub entry_room : (i : ℕ) → i < k → 3 * i + 3 ≤ n
  entry_room i h = omega (arith, row_room b)

  -- a stack that the statement does not go on
  pub ess_still : {v : List ℕ} {c d : ℕ} → Kept n 12 12 c d w v → and (is_essential (stmt l k).kind) (accepted l k) ≡ false
      → Stack v 10 l (rows_of is_essential l (k + 1)) st.es (k + 1) (stmt l k).at
  ess_still x e =
      rw (rows_next is_essential l k, e, append-nil (rows_of is_essential l k))
      (stack_next
      (stack_kept (λ i m. x.low i 10 (entry_room i (omega (arith, b.stands.essentials))) (omega arith) (omega arith)) b.stands.ess))

  pub dis_still : {v : List ℕ} {c d : ℕ} → Kept n 12 12 c d w v → and (is_disjoint (stmt l k).kind) (accepted l k) ≡ false
      → Stack v 11 l (rows_of is_disjoint l (k + 1)) st.ds (k + 1) (stmt l k).at
  dis_still x e =
      rw (rows_next is_disjoint l k, e, append-nil (rows_of is_disjoint l k))
      (stack_next
      (stack_kept (λ i m. x.low i 11 (entry_room i (omega (arith, b.stands.disjoints))) (omega arith) (omega arith)) b.stands.dis))

  pub quiet : {v out out' : List ℕ} {p : ℕ} → Kept n 12 12 6 7 w v → Marks v n l [] → (given_at l k).records ≡ nothing
      → and (is_essential (stmt l k).kind) (accepted l k) ≡ false → and (is_disjoint (stmt l k).kind) (accepted l k) ≡ false
      → p ≤ st.diags + 604000000 → Wrote out out' st.diags p (gather diag_record (given_at l k).diags) → Given w v out out' n l st (moved st p) k
  quiet x m r e d g told =
      record {
        kept = kept_wide 10 12 2 7 (omega arith) (omega arith) (omega arith) (omega arith) x;
        numbers = λ a h. x.left a 5 h (omega arith) (omega arith);
        stands = record {
          nests = rw (nested_next l k r, append-nil (state_at l k).nested) (nests_kept atoms_fit (omega arith) x b.stands.nests);
          floats =
              rw (hyps_next l k r, append-nil (state_at l k).hyps)
              (floats_later {o = (stmt l k).at} (omega arith) (omega arith)
              (floats_kept {k = k} atoms_fit (omega (arith, row_room b)) (omega arith) (λ i h. x.left i 4 h (omega arith) (omega arith)) x b.stands.floats));
          marks = m;
          ess = ess_still x e;
          dis = dis_still x d;
          essentials = omega (arith, b.stands.essentials);
          disjoints = omega (arith, b.stands.disjoints);
          place = omega (arith, g, b.stands.place);
        };
        told = told;
      }

  -- rejected: it has no effect but its diagnostics
  pub rejected : {v out out' : List ℕ} {p : ℕ} {d : List Diag} → Kept n 12 12 6 7 w v → Marks v n l [] → given_at l k ≡ give.only d → length d ≢ 0
      → p ≤ st.diags + 604000000 → Wrote out out' st.diags p (gather diag_record d) → Given w v out out' n l st (moved st p) k
  unfolding accepted
  rejected {d = d} x m e h g told =
      let a : accepted l k ≡ false = ap (λ (y : give.Given). no_diags y.diags) e ∙ not_accepted d h in
      quiet x m (ap (λ (y : give.Given). y.records) e) (rw a (and_false (is_essential (stmt l k).kind))) (rw a (and_false (is_disjoint (stmt l k).kind))) g
      (same_told told (ap (λ (y : give.Given). y.diags) e))
