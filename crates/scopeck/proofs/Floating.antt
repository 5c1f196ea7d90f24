-- What a `$f` that owns its label gives, by what its code did.
-- Assumes nothing.
use mathlib.Core.Path.{◌≡◌, refl, sym, ap, ◌∙◌}
use mathlib.Core.Logic.{◌≢◌}
use mathlib.Core.List.{List, [], ◌∷◌, ◌++◌, append-nil}
use mathlib.Core.Option.{Option, none, some}
use Prim.Native.Nat.{ℕ, ◌+◌}
use native.Mathlib.Omega.{arith}
use Rattle.paper.specs.Base.{and, gather, keep}
use Rattle.paper.specs.Statements.{Kind, $f, labelled, Statement}
use Rattle.paper.specs.State.{Hyp, State, active_hyp, view, float_of, sense}
use Rattle.paper.specs.Checks.{Diag, token, typecode_diags, variable_diags, if_none, float_diags, check_float}
use Rattle.paper.specs.Frames.{stub}
use Rattle.paper.specs.Give as give
use Rattle.paper.specs.Records.{diag_record}
use Rattle.paper.specs.declared.Atom.{Atom}
use Rattle.area.specs.Cells.{statement_cell, math_cell, word}
use Rattle.reader.specs.Rows.{stmt}
use Rattle.facts.specs.States.{state_at, view_at, given_at}
use Rattle.facts.proofs.Sense.{kind_none}
use Rattle.history.specs.Accepted.{accepted, is_essential, is_disjoint}
use Rattle.stream.specs.Wrote.{Wrote}
use Rattle.slots.specs.Slots.{Nests, Atomic, float_hyp, with_float}
use Rattle.slots.proofs.Kept.{kept_none, kept_wide}
use Rattle.slots.proofs.Slots.{nests_kept, kept_float, floats_put}
use Rattle.slots.proofs.Marks.{marks_kept}
use Rattle.checks.specs.Tokens.{Float}
use Rattle.checks.proofs.Ones.{same_told}
use Rattle.checks.proofs.OverRows.{seen_here}
use Rattle.scopeck.specs.declared.Scope.{Scope}
use Rattle.scopeck.specs.declared.Row.{Row}
use Rattle.std.specs.Prelude as code
use Rattle.scopeck.specs.Scope.{row_of, Owns, moved, Ready, GivesPart}
use Rattle.scopeck.proofs.Numbers.{kind_f}
use Rattle.scopeck.proofs.Ready.{apart_of, kind_of, row_room, here_of}
use Rattle.scopeck.proofs.Gives.{given_by, accept_some, told_some, told_nothing, nested_next, hyps_next, atoms_fit, ess_still, dis_still, rejected}
use Rattle.scopeck.proofs.Labelled.{owned}

view_hyps : (l : List Statement) (k : ℕ) → (view_at l k).hyps ≡ keep (active_hyp (stmt l k).at) (state_at l k).hyps
unfolding view_at view
view_hyps l k = refl

if_none_none : (d f : List Diag) → if_none d f ≡ [] → f ≡ []
if_none_none [] f e = e
if_none_none (x ∷ d) f e = absurd (no e)
  where
    no : x ∷ d ≡ [] → ⊥
    no e = let y : ◌≡◌ {A = ℕ} 0 1 = cc in omega arith

float_none : (l : List Statement) (v : State) (z : Statement) → check_float l v z ≡ [] → float_of v.hyps (token z 1).bytes ≡ none
unfolding check_float
float_none l v z e = by_hyp (float_of v.hyps (token z 1).bytes) (if_none_none (typecode_diags (sense l v (token z 0)) z.at ++ variable_diags (sense l v (token z 1)) z.at) (float_diags (float_of v.hyps (token z 1).bytes) z.at) e)
  where
    by_hyp : (o : Option Hyp) → float_diags o z.at ≡ [] → o ≡ none
    by_hyp none q = refl
    by_hyp (some h) q = let y : ◌≡◌ {A = ℕ} 0 1 = cc in absurd (omega arith)

module _ {w out out' : List ℕ} {n : ℕ} {st : Scope} {k p c a : ℕ} {r : Row} {y : Atom} (e : r ≡ row_of w k) (kw : word w (statement_cell k 0) ≡ 4) (o : Owns w n r.label.0 r.at.0 (code.Some y))
    (ec : c ≡ word w (math_cell n r.first)) (ea : a ≡ word w (math_cell n (r.first + 1))) (x : Float w out out' n st.diags p c a r.at.0) where
  float_told : {t : List ℕ} {l : List Statement} (b : Ready t w n l st k) → Wrote out out' st.diags p (gather diag_record (check_float l (view_at l k) (stmt l k)))
  unfolding view_at
  float_told {l = l} b =
      let h = here_of b e in
      let at_is = h.at in
      let ek = kind_f (stmt l k).kind (kind_of b kw) in
      let q = kind_none (stmt l k) $f ek refl in
      let two = (b.facts.shaped k b.inside).two ek in
      let z : r.first + 0 ≡ r.first = omega arith in
      let ns : Nests w n l (state_at l k).nested r.at.0 = rw at_is b.stands.nests in
      same_told
      (x.sim k (stmt l k) (omega (arith, b.inside)) (sym at_is)
      (seen_here {i = 0} (state_at l k) h q ns (omega (arith, h.count, two)) (ec ∙ ap (λ (j : ℕ). word w (math_cell n j)) (sym z)))
      (seen_here {i = 1} (state_at l k) h q ns (omega (arith, h.count, two)) ea)
      (rw at_is b.stands.floats))
      (ap (λ (j : ℕ). check_float l (view (state_at l k) j) (stmt l k)) (sym at_is))

  float_given : {t : List ℕ} {l : List Statement} (b : Ready t w n l st k)
      → given_at l k ≡ give.accept (check_float l (view_at l k) (stmt l k)) (give.with_hyp (float_hyp l k)) (stub (stmt l k).at (stmt l k).end (stmt l k).label (token (stmt l k) 0).bytes (token (stmt l k) 1).bytes ∷ [])
  unfolding give.give_f float_hyp
  float_given {l = l} b =
      let ek = kind_f (stmt l k).kind (kind_of b kw) in
      given_by l k ek ∙ rw (owned {st = st} e b (ap labelled ek) o)

  pub float_rejected : {q : List ℕ} {s : Scope} → s ≡ moved st p → p ≢ st.diags → GivesPart w w q out out' n st s k
  float_rejected es ne =
      record {
        sim = λ {t} {l} b pq.
            let d = check_float l (view_at l k) (stmt l k) in
            let g = float_told b in
            let h = told_some d g ne in
            rw es
            (rejected b {d = d} (kept_none n 12 12 6 7 w) b.stands.marks (float_given b ∙ accept_some d _ _ h) h (omega (arith, x.few)) g);
      }

  pub float_accepted : {u q : List ℕ} {s : Scope} → s ≡ moved st p → p ≡ st.diags → u ≡ with_float w n a k → GivesPart w u q out out' n st s k
  float_accepted es eq eu =
      record {
        sim = λ {t} {l} b pq.
            let h = here_of b e in
            let ek = kind_f (stmt l k).kind (kind_of b kw) in
            let two = (b.facts.shaped k b.inside).two ek in
            let d = check_float l (view_at l k) (stmt l k) in
            let g = float_told b in
            let dn : d ≡ [] = told_nothing d g eq in
            let sb = stub (stmt l k).at (stmt l k).end (stmt l k).label (token (stmt l k) 0).bytes (token (stmt l k) 1).bytes in
            let eg = float_given b ∙ ap (λ (y : List Diag). give.accept y (give.with_hyp (float_hyp l k)) (sb ∷ [])) dn in
            let er = ap (λ (y : give.Given). y.records) eg in
            let at : Atomic l a (token (stmt l k) 1).bytes = rw ea (h.atomic 1 (omega (arith, h.count, two))) in
            let kt = kept_float w n a k b.room (omega (arith, at.below, b.named.few)) in
            let ac = accepted l k in
            rw (es, eu)
            (record {
              kept = kept_wide 10 12 2 7 (omega arith) (omega arith) (omega arith) (omega arith) kt;
              numbers = λ i h. kt.right i 5 h (omega arith) (omega arith);
              stands = record {
                nests = rw (nested_next l k er, append-nil (state_at l k).nested) (nests_kept (atoms_fit b) (omega arith) kt b.stands.nests);
                floats =
                    rw (hyps_next l k er)
                    (floats_put b.room (atoms_fit b) (row_room b) (b.named.shape.end k b.inside) (apart_of l) at b.stands.floats
                    (rw (← (view_hyps l k)) (float_none l (view_at l k) (stmt l k) dn)));
                marks = marks_kept (atoms_fit b) (λ i m. kt.right i 6 m (omega arith) (omega arith)) b.stands.marks;
                ess = ess_still b kt (ap (λ (y : Kind). and (is_essential y) ac) ek);
                dis = dis_still b kt (ap (λ (y : Kind). and (is_disjoint y) ac) ek);
                essentials = omega (arith, b.stands.essentials);
                disjoints = omega (arith, b.stands.disjoints);
                place = omega (arith, x.few, b.stands.place);
              };
              told = same_told g (ap (λ (y : give.Given). y.diags) eg ∙ sym dn);
            });
      }
