-- What a `$c`, a `$v` or a `$d` gives, by what its code did.
-- Assumes nothing.
use mathlib.Core.Path.{◌≡◌, refl, sym, ap, ◌∙◌}
use mathlib.Core.Logic.{◌≢◌}
use mathlib.Core.Bool.{Bool, true, false}
use mathlib.Core.List.{List, [], map, append-nil}
use Prim.Native.Nat.{ℕ, ◌+◌, ◌*◌, ◌<◌, ◌≤◌}
use native.Mathlib.Omega.{arith}
use lib.ListN.{length, set}
use borrow.Author.Tests.{eq-eqb, ne_eqb}
use Rattle.paper.specs.Base.{and, gather, keep}
use Rattle.paper.specs.Statements.{Kind, $c, $v, $d, Statement, none_end, outermost}
use Rattle.paper.specs.State.{active_nested, view}
use Rattle.paper.specs.Checks.{Diag, diag, check_outer, nested_records, nested_diags, check_disjoint}
use Rattle.paper.specs.Give as give
use Rattle.paper.specs.Records.{diag_record}
use Rattle.area.specs.Cells.{statement_cell, word}
use Rattle.reader.specs.Rows.{stmt}
use Rattle.facts.specs.States.{state_at, view_at, given_at}
use Rattle.facts.proofs.Sense.{kind_none}
use Rattle.history.specs.Accepted.{no_diags, accepted, is_essential, is_disjoint}
use Rattle.history.proofs.Active.{rows_next}
use Rattle.stream.specs.Wrote.{Wrote, WroteOrKept}
use Rattle.stream.specs.Diagnostic.{diagnostic}
use Rattle.stream.proofs.Records.{wrote_diag}
use Rattle.slots.specs.Marks.{Marks}
use Rattle.slots.proofs.Kept.{kept_none, kept_then, kept_wide, kept_statement}
use Rattle.slots.proofs.Slots.{nests_kept, floats_kept, floats_later}
use Rattle.slots.proofs.Marks.{marks_kept}
use Rattle.slots.proofs.Stacks.{stack_kept, stack_push}
use Rattle.checks.specs.Walks.{WalkOuter, WalkNested, CheckedDv}
use Rattle.checks.proofs.Ones.{same_told}
use Rattle.scopeck.specs.declared.Scope.{Scope}
use Rattle.scopeck.specs.declared.Row.{Row}
use Rattle.scopeck.specs.Scope.{row_of, part_of, moved, with_disjoint, Ready, Given, GivesPart}
use Rattle.scopeck.proofs.Numbers.{kind_c, kind_v, kind_d}
use Rattle.scopeck.proofs.Ready.{row_end, apart_of, kind_of, row_room, here_of, walk_of, here_part, walk_part}
use Rattle.scopeck.proofs.Gives.{given_by, accept_some, told_some, told_nothing, nested_next, hyps_next, atoms_fit, entry_room, ess_still, dis_still, quiet, rejected}

-- ---- an outermost `$c` or `$v`
outer_c : (l : List Statement) (k : ℕ) → (stmt l k).kind ≡ $c → outermost (stmt l k) ≡ true → given_at l k ≡ give.only (check_outer l (stmt l k))
unfolding give.give_c
outer_c l k e o = given_by l k e ∙ rw o

outer_v : (l : List Statement) (k : ℕ) → (stmt l k).kind ≡ $v → outermost (stmt l k) ≡ true → given_at l k ≡ give.only (check_outer l (stmt l k))
unfolding give.give_v
outer_v l k e o = given_by l k e ∙ rw o

is_outer : (z : Statement) → z.end ≡ none_end → outermost z ≡ true
unfolding outermost
is_outer z e = eq-eqb z.end none_end e

is_inner : (z : Statement) → z.end ≢ none_end → outermost z ≡ false
unfolding outermost
is_inner z e = ne_eqb z.end none_end e

module _ {w q out out' : List ℕ} {n : ℕ} {st s : Scope} {k p : ℕ} {r : Row} (e : r ≡ row_of w k) (es : s ≡ moved st p) where
  outer_told : {t : List ℕ} {l : List Statement} (b : Ready t w n l st k) → q ≡ part_of t w k → {c : Kind} → (stmt l k).kind ≡ c → is_essential c ≡ false → is_disjoint c ≡ false
      → given_at l k ≡ give.only (check_outer l (stmt l k)) → WalkOuter w q out out' n st.diags p r.first r.from r.at.0 → Given w w out out' n l st s k
  outer_told {l = l} b pq ek ie id eg x =
      let wp = walk_part b e pq in
      let a = accepted l k in
      rw es
      (quiet b (kept_none n 12 12 6 7 w) b.stands.marks (ap (λ (y : give.Given). y.records) eg)
      (ap (λ (y : Kind). and (is_essential y) a) ek ∙ ap (λ (y : Bool). and y a) ie)
      (ap (λ (y : Kind). and (is_disjoint y) a) ek ∙ ap (λ (y : Bool). and y a) id)
      (omega (arith, x.few, wp.walk.atoms.rows, wp.walk.room.small))
      (same_told (x.sim k (here_part b e pq)) (ap (λ (y : give.Given). y.diags) eg)))

  pub constant_outer : word w (statement_cell k 0) ≡ 1 → r.end ≡ none_end → WalkOuter w q out out' n st.diags p r.first r.from r.at.0 → GivesPart w w q out out' n st s k
  constant_outer kw ne x =
      record {
        sim = λ {t} {l} b pq.
            let ek = kind_c (stmt l k).kind (kind_of b kw) in
            let o = is_outer (stmt l k) (sym (row_end b e) ∙ ne) in
            outer_told b pq ek refl refl (outer_c l k ek o) x;
      }

  pub variable_outer : word w (statement_cell k 0) ≡ 2 → r.end ≡ none_end → WalkOuter w q out out' n st.diags p r.first r.from r.at.0 → GivesPart w w q out out' n st s k
  variable_outer kw ne x =
      record {
        sim = λ {t} {l} b pq.
            let ek = kind_v (stmt l k).kind (kind_of b kw) in
            let o = is_outer (stmt l k) (sym (row_end b e) ∙ ne) in
            outer_told b pq ek refl refl (outer_v l k ek o) x;
      }

  -- ---- a nested `$c`
  pub constant_nested : word w (statement_cell k 0) ≡ 1 → r.end ≢ none_end → (p ≡ st.diags + 18) × WroteOrKept out out' st.diags p (diag_record (diagnostic 13 r.at.0 0 0)) → GivesPart w w q out out' n st s k
  unfolding give.give_c
  constant_nested kw ne x =
      record {
        sim = λ {t} {l} b pq.
            let ek = kind_c (stmt l k).kind (kind_of b kw) in
            let o = is_inner (stmt l k) (λ i. ne (row_end b e ∙ i)) in
            let eg : given_at l k ≡ give.only (diag 13 (stmt l k).at 0 0) = given_by l k ek ∙ rw o in
            rw es
            (rejected b {d = diag 13 (stmt l k).at 0 0} (kept_none n 12 12 6 7 w) b.stands.marks eg (λ i. omega (arith, i)) (omega (arith, x.0))
            (same_told (wrote_diag 13 r.at.0 0 0 x.1.wrote) (ap (λ (y : ℕ). diag 13 y 0 0) (sym (here_of b e).at))));
      }

-- ---- a nested `$v`
view_nested : (l : List Statement) (k : ℕ) → (view_at l k).nested ≡ keep (active_nested (stmt l k).at) (state_at l k).nested
unfolding view_at view
view_nested l k = refl

inner_v : (l : List Statement) (k : ℕ) → (stmt l k).kind ≡ $v → outermost (stmt l k) ≡ false
    → given_at l k ≡ record {
      diags = nested_diags l (stmt l k).at (stmt l k).end (stmt l k).math 0 (keep (active_nested (stmt l k).at) (state_at l k).nested);
      records = give.with_nested (nested_records l (stmt l k).end (stmt l k).math (keep (active_nested (stmt l k).at) (state_at l k).nested));
      frame = [];
    }
unfolding give.give_v
inner_v l k e o = given_by l k e ∙ rw (o, view_nested l k)

pub variable_nested : {w v q out out' : List ℕ} {n : ℕ} {st s : Scope} {k p : ℕ} {r : Row} → r ≡ row_of w k
    → s ≡ moved st p → word w (statement_cell k 0) ≡ 2 → r.end ≢ none_end → WalkNested w v q out out' n st.diags p r.first r.from r.end r.at.0 → GivesPart w v q out out' n st s k
variable_nested {n = n} {st = st} {k = k} {r = r} e es kw ne x =
    record {
      sim = λ {t} {l} b pq.
          let ek = kind_v (stmt l k).kind (kind_of b kw) in
          let en_is = row_end b e in
          let at_is = (here_of b e).at in
          let eg = inner_v l k ek (is_inner (stmt l k) (λ i. ne (en_is ∙ i))) in
          let kt = x.kept in
          let wp = walk_part b e pq in
          let a = accepted l k in
          let g = x.sim (state_at l k).nested k (here_part b e pq) (rw (at_is, en_is) (b.facts.shaped k b.inside).lives) (apart_of l) (rw at_is b.stands.nests) in
          rw es
          (record {
            kept = kept_wide 10 12 2 7 (omega arith) (omega arith) (omega arith) (omega arith) kt;
            numbers = λ i h. kt.right i 5 h (omega arith) (omega arith);
            stands = record {
              nests = rw (nested_next l k (ap (λ (y : give.Given). y.records) eg)) (rw (at_is, en_is) at g.nests);
              floats =
                  rw (hyps_next l k (ap (λ (y : give.Given). y.records) eg), append-nil (state_at l k).hyps)
                  (floats_later {o = (stmt l k).at} (omega arith) (omega arith)
                  (floats_kept {k = k} (atoms_fit b) (omega (arith, row_room b)) (omega arith) (λ i h. kt.right i 4 h (omega arith) (omega arith)) kt b.stands.floats));
              marks = marks_kept (atoms_fit b) (λ i h. kt.right i 6 h (omega arith) (omega arith)) b.stands.marks;
              ess = ess_still b kt (ap (λ (y : Kind). and (is_essential y) a) ek);
              dis = dis_still b kt (ap (λ (y : Kind). and (is_disjoint y) a) ek);
              essentials = omega (arith, b.stands.essentials);
              disjoints = omega (arith, b.stands.disjoints);
              place = omega (arith, x.few, wp.walk.atoms.rows, wp.walk.room.small, b.stands.place);
            };
            told = same_told (rw (at_is, en_is) at g.wrote) (ap (λ (y : give.Given). y.diags) eg);
          });
    }

-- ---- `$d`
dv_given : (l : List Statement) (k : ℕ) → (stmt l k).kind ≡ $d
    → given_at l k ≡ give.accept (check_disjoint l (view_at l k) (stmt l k)) (give.with_disjoint (record { end = (stmt l k).end; names = map (λ t. t.bytes) (stmt l k).math })) []
unfolding give.give_d
dv_given l k e = given_by l k e

module _ {w v out out' : List ℕ} {n : ℕ} {st : Scope} {k p : ℕ} {r : Row} (e : r ≡ row_of w k) (kw : word w (statement_cell k 0) ≡ 3) (x : CheckedDv w v out out' n st.diags p r.first r.count r.at.0) where
  dv_told : {t : List ℕ} {l : List Statement} (b : Ready t w n l st k) → Marks v n l [] × Wrote out out' st.diags p (gather diag_record (check_disjoint l (view_at l k) (stmt l k)))
  unfolding view_at
  dv_told {l = l} b =
      let at_is = (here_of b e).at in
      let ek = kind_d (stmt l k).kind (kind_of b kw) in
      let g = x.sim (state_at l k) k (here_of b e) (kind_none (stmt l k) $d ek refl) (apart_of l) (rw at_is b.stands.nests) b.stands.marks in
      (g.0, same_told g.1 (ap (λ (o : ℕ). check_disjoint l (view (state_at l k) o) (stmt l k)) (sym at_is)))

  dv_few : {t : List ℕ} {l : List Statement} (b : Ready t w n l st k) → p ≤ st.diags + 604000000
  dv_few b = let g = walk_of b e in omega (arith, x.few, g.atoms.rows, g.room.small)

  pub dv_rejected : {q : List ℕ} {s : Scope} → s ≡ moved st p → p ≢ st.diags → GivesPart w v q out out' n st s k
  dv_rejected es ne =
      record {
        sim = λ {t} {l} b pq.
            let d = check_disjoint l (view_at l k) (stmt l k) in
            let g = dv_told b in
            let h = told_some d g.1 ne in
            rw es
            (rejected b {d = d} x.kept g.0 (dv_given l k (kind_d (stmt l k).kind (kind_of b kw)) ∙ accept_some d _ [] h) h (dv_few b) g.1);
      }

  pub dv_accepted : {u q : List ℕ} {s : Scope} → s ≡ with_disjoint st p → p ≡ st.diags → u ≡ set v (statement_cell st.ds 11) k → GivesPart w u q out out' n st s k
  unfolding accepted
  dv_accepted {u} es eq eu =
      record {
        sim = λ {t} {l} b pq.
            let ek = kind_d (stmt l k).kind (kind_of b kw) in
            let d = check_disjoint l (view_at l k) (stmt l k) in
            let g = dv_told b in
            let dn : d ≡ [] = told_nothing d g.1 eq in
            let eg = dv_given l k ek ∙ ap (λ (y : List Diag). give.accept y (give.with_disjoint (record { end = (stmt l k).end; names = map (λ t. t.bytes) (stmt l k).math })) []) dn in
            let er = ap (λ (y : give.Given). y.records) eg in
            let a : accepted l k ≡ true = ap (λ (y : give.Given). no_diags y.diags) eg in
            let depth : 3 * st.ds + 3 ≤ n = omega (arith, row_room b, b.stands.disjoints) in
            let ks = kept_statement n 11 12 v st.ds 11 k depth (omega arith) (omega arith) (omega arith) in
            let k₁ = kept_wide {w = w} {v = v} 11 12 6 7 (omega arith) (omega arith) (omega arith) (omega arith) x.kept in
            let kt = kept_then k₁ (kept_wide 11 12 6 7 (omega arith) (omega arith) (omega arith) (omega arith) ks) in
            let room : statement_cell st.ds 11 < length v = omega (arith, x.kept.len, b.room.room, depth) in
            rw (es, eu)
            (record {
              kept = kept_wide 10 12 2 7 (omega arith) (omega arith) (omega arith) (omega arith) kt;
              numbers = λ i h. kt.left i 5 h (omega arith) (omega arith);
              stands = record {
                nests = rw (nested_next l k er, append-nil (state_at l k).nested) (nests_kept (atoms_fit b) (omega arith) kt b.stands.nests);
                floats =
                    rw (hyps_next l k er, append-nil (state_at l k).hyps)
                    (floats_later {o = (stmt l k).at} (omega arith) (omega arith)
                    (floats_kept {k = k} (atoms_fit b) (omega (arith, row_room b)) (omega arith) (λ i h. kt.left i 4 h (omega arith) (omega arith)) kt b.stands.floats));
                marks = marks_kept (atoms_fit b) (λ i h. ks.left i 6 h (omega arith) (omega arith)) g.0;
                ess =
                    stack_kept (λ i m. ks.low i 10 (entry_room b i (omega (arith, b.stands.essentials))) (omega arith) (omega arith))
                    (ess_still b x.kept (ap (λ (y : Kind). and (is_essential y) (accepted l k)) ek));
                dis =
                    rw (rows_next is_disjoint l k, a, ek)
                    (stack_push b.facts b.inside room
                    (stack_kept (λ i m. x.kept.low i 11 (entry_room b i (omega (arith, b.stands.disjoints))) (omega arith) (omega arith)) b.stands.dis));
                essentials = omega (arith, b.stands.essentials);
                disjoints = omega (arith, b.stands.disjoints);
                place = omega (arith, dv_few b, b.stands.place);
              };
              told = same_told g.1 (ap (λ (y : give.Given). y.diags) eg ∙ sym dn);
            });
      }
