-- What a statement with a label gives, by what its code did: a later bearer of any kind; an `$e`, `$a` or `$p` that owns its label.
-- Assumes nothing.
use mathlib.Core.Path.{◌≡◌, refl, sym, ap, ◌∙◌}
use mathlib.Core.Logic.{◌≢◌}
use mathlib.Core.Bool.{Bool, true, false}
use mathlib.Core.List.{List, [], ◌∷◌, append-nil}
use Prim.Native.Nat.{ℕ, ◌+◌, ◌*◌, ◌<◌, ◌≤◌}
use native.Mathlib.Omega.{arith}
use lib.ListN.{length, set}
use Rattle.paper.specs.Base.{and, gather}
use Rattle.paper.specs.Statements.{Kind, $c, $v, $d, $f, $e, $a, $p, labelled, Statement}
use Rattle.paper.specs.Names.{declarations}
use Rattle.paper.specs.State.{Hyp, essential, nothing, view}
use Rattle.paper.specs.Checks.{Diag, check_label, check_expression}
use Rattle.paper.specs.Variables.{formula}
use Rattle.paper.specs.Frames.{frame_of}
use Rattle.paper.specs.Give as give
use Rattle.paper.specs.Records.{diag_record}
use Rattle.paper.specs.declared.Atom.{Atom}
use Rattle.paper.proofs.Tests.{clash}
use Rattle.area.specs.Cells.{statement_cell, word}
use Rattle.reader.specs.Rows.{kind_number, stmt}
use Rattle.facts.specs.States.{state_at, view_at, given_at}
use Rattle.facts.proofs.Sense.{kind_none}
use Rattle.history.specs.Accepted.{no_diags, accepted, is_essential, is_disjoint}
use Rattle.history.proofs.Active.{rows_next}
use Rattle.stream.specs.Wrote.{Wrote}
use Rattle.slots.specs.Slots.{Atomic}
use Rattle.slots.proofs.Kept.{kept_none, kept_wide, kept_statement}
use Rattle.slots.proofs.Slots.{nests_kept, floats_essential, floats_kept, floats_later}
use Rattle.slots.proofs.Marks.{marks_kept}
use Rattle.slots.proofs.Stacks.{stack_kept, stack_push}
use Rattle.checks.specs.Tokens.{Label}
use Rattle.checks.specs.Walks.{WalkEap}
use Rattle.checks.proofs.Ones.{same_told}
use Rattle.scopeck.specs.declared.Scope.{Scope}
use Rattle.scopeck.specs.declared.Row.{Row}
use Rattle.std.specs.Prelude as code
use Rattle.scopeck.specs.Scope.{row_of, Borne, own_by, Owns, moved, with_essential, Ready, GivesPart}
use Rattle.scopeck.proofs.Owners.{Bearer, bearer_of, owns_none, owns_some}
use Rattle.scopeck.proofs.Numbers.{kind_e, kind_large}
use Rattle.scopeck.proofs.Ready.{kind_of, row_room, here_of, walk_of, label_atomic}
use Rattle.scopeck.proofs.Gives.{given_by, unless_some, accept_some, accept_diags, accept_nothing, told_some, told_nothing, nested_next, hyps_next, atoms_fit, entry_room, dis_still, quiet, rejected}

-- ---- labels
module _ {w : List ℕ} {n : ℕ} {st : Scope} {k : ℕ} {r : Row} (e : r ≡ row_of w k) {t : List ℕ} {l : List Statement} (b : Ready t w n l st k) (lab : labelled (stmt l k).kind ≡ true) where
  row_label : Atomic l r.label.0 (stmt l k).label
  row_label = rw e (label_atomic b lab)

  first : Bearer l (stmt l k).label
  first = bearer_of l k b.inside lab

  -- its label has an owner
  borne_of : Borne w n r.label.0
  borne_of =
      record {
        text = t;
        of = l;
        named = b.named;
        below = row_label.below;
        first = first.token;
        owned = rw row_label.name first.is;
      }

  owner_is : {x : code.Option Atom} → Owns w n r.label.0 r.at.0 x → x ≡ own_by first.token.at (stmt l k).at r.label.0
  owner_is o =
      o.is first.token b.named row_label.below (rw row_label.name first.is)
      ∙ ap (λ (i : ℕ). own_by first.token.at i r.label.0) (here_of b e).at

  fails : Owns w n r.label.0 r.at.0 code.None → length (check_label l (stmt l k)) ≢ 0
  unfolding check_label
  fails o = rw first.is (owns_none first.token (stmt l k) r.label.0 (owner_is o))

  pub owned : {x : Atom} → Owns w n r.label.0 r.at.0 (code.Some x) → check_label l (stmt l k) ≡ []
  unfolding check_label
  owned o = rw first.is (owns_some first.token (stmt l k) r.label.0 (owner_is o))

  label_told : {out out' : List ℕ} {p : ℕ} → Label w out out' n st.diags p r.label.0 r.at.0 → Wrote out out' st.diags p (gather diag_record (check_label l (stmt l k)))
  label_told x = x.sim (stmt l k) b.named row_label (sym (here_of b e).at)

pub borne_at : {w : List ℕ} {n : ℕ} {st : Scope} {k : ℕ} {r : Row} → r ≡ row_of w k → {t : List ℕ} {l : List Statement} → Ready t w n l st k → 4 ≤ word w (statement_cell k 0)
    → Borne w n r.label.0
borne_at {st = st} {k = k} e {l = l} b h =
    borne_of {st = st} e b (kind_large (stmt l k).kind (omega (arith, h, b.named.shape.kind k b.inside)))

-- a later bearer
unless_by : (l : List Statement) (k : ℕ) (c : Kind) → (stmt l k).kind ≡ c → labelled c ≡ true → length (check_label l (stmt l k)) ≢ 0 → given_at l k ≡ give.only (check_label l (stmt l k))
unfolding give.give_f give.give_e give.give_assertion
unless_by l k $c e h n = absurd (clash (sym h))
unless_by l k $v e h n = absurd (clash (sym h))
unless_by l k $d e h n = absurd (clash (sym h))
unless_by l k $f e h n = given_by l k e ∙ unless_some (check_label l (stmt l k)) _ n
unless_by l k $e e h n = given_by l k e ∙ unless_some (check_label l (stmt l k)) _ n
unless_by l k $a e h n = given_by l k e ∙ unless_some (check_label l (stmt l k)) _ n
unless_by l k $p e h n = given_by l k e ∙ unless_some (check_label l (stmt l k)) _ n

pub later_bearer : {w q out out' : List ℕ} {n : ℕ} {st s : Scope} {k p : ℕ} {r : Row} → r ≡ row_of w k → s ≡ moved st p → 4 ≤ word w (statement_cell k 0)
    → Owns w n r.label.0 r.at.0 code.None → Label w out out' n st.diags p r.label.0 r.at.0 → GivesPart w w q out out' n st s k
later_bearer {w} {n = n} {st} {k = k} e es kw o x =
    record {
      sim = λ {t} {l} b pq.
          let lab = kind_large (stmt l k).kind (omega (arith, kw, b.named.shape.kind k b.inside)) in
          let h = fails {st = st} e b lab o in
          rw es
          (rejected b {d = check_label l (stmt l k)} (kept_none n 12 12 6 7 w) b.stands.marks (unless_by l k (stmt l k).kind refl lab h) h (omega (arith, x.few)) (label_told {st = st} e b lab x));
    }

-- ---- `$e`, `$a`, `$p`
eap_checked : (l : List Statement) (k : ℕ) → check_label l (stmt l k) ≡ [] → (stmt l k).kind ≡ $e
    → given_at l k ≡ give.accept (check_expression l (view_at l k) (stmt l k)) (give.with_hyp (essential (stmt l k).at (stmt l k).end (formula l (view_at l k) (stmt l k)))) []
unfolding give.give_e
eap_checked l k q ek = given_by l k ek ∙ rw q

-- an assertion records nothing
assert_given : (l : List Statement) (k : ℕ) (c : Kind) → check_label l (stmt l k) ≡ [] → (stmt l k).kind ≡ c → 6 ≤ kind_number c
    → ((given_at l k).diags ≡ check_expression l (view_at l k) (stmt l k)) × ((given_at l k).records ≡ nothing)
unfolding give.give_assertion
assert_given l k $c q ek h = absurd (omega arith)
assert_given l k $v q ek h = absurd (omega arith)
assert_given l k $d q ek h = absurd (omega arith)
assert_given l k $f q ek h = absurd (omega arith)
assert_given l k $e q ek h = absurd (omega arith)
assert_given l k $a q ek h =
    let d = check_expression l (view_at l k) (stmt l k) in
    let f = frame_of 2 (stmt l k) (view_at l k) (formula l (view_at l k) (stmt l k)) ∷ [] in
    let eg : given_at l k ≡ give.accept d nothing f = given_by l k ek ∙ rw q in
    (ap (λ (y : give.Given). y.diags) eg ∙ accept_diags d nothing f, ap (λ (y : give.Given). y.records) eg ∙ accept_nothing d f)
assert_given l k $p q ek h =
    let d = check_expression l (view_at l k) (stmt l k) in
    let f = frame_of 3 (stmt l k) (view_at l k) (formula l (view_at l k) (stmt l k)) ∷ [] in
    let eg : given_at l k ≡ give.accept d nothing f = given_by l k ek ∙ rw q in
    (ap (λ (y : give.Given). y.diags) eg ∙ accept_diags d nothing f, ap (λ (y : give.Given). y.records) eg ∙ accept_nothing d f)

assert_kind : (c : Kind) → 6 ≤ kind_number c → (labelled c ≡ true) × (is_essential c ≡ false) × (is_disjoint c ≡ false)
assert_kind $c h = absurd (omega arith)
assert_kind $v h = absurd (omega arith)
assert_kind $d h = absurd (omega arith)
assert_kind $f h = absurd (omega arith)
assert_kind $e h = absurd (omega arith)
assert_kind $a h = (refl, refl, refl)
assert_kind $p h = (refl, refl, refl)

assert_none : (z : Statement) (c : Kind) → z.kind ≡ c → 6 ≤ kind_number c → declarations z ≡ []
assert_none z $c ek h = absurd (omega arith)
assert_none z $v ek h = absurd (omega arith)
assert_none z $d ek h = absurd (omega arith)
assert_none z $f ek h = absurd (omega arith)
assert_none z $e ek h = absurd (omega arith)
assert_none z $a ek h = kind_none z $a ek refl
assert_none z $p ek h = kind_none z $p ek refl

module _ {w out out' : List ℕ} {n : ℕ} {st : Scope} {k p : ℕ} {r : Row} (e : r ≡ row_of w k) (x : WalkEap w out out' n st.diags p r.first r.count r.at.0) where
  eap_told : {t : List ℕ} {l : List Statement} (b : Ready t w n l st k) → declarations (stmt l k) ≡ [] → Wrote out out' st.diags p (gather diag_record (check_expression l (view_at l k) (stmt l k)))
  unfolding view_at
  eap_told {l = l} b q =
      let at_is = (here_of b e).at in
      same_told (x.sim (state_at l k) k k (here_of b e) q (rw at_is b.stands.nests) (rw at_is b.stands.floats))
      (ap (λ (o : ℕ). check_expression l (view (state_at l k) o) (stmt l k)) (sym at_is))

  eap_few : {t : List ℕ} {l : List Statement} (b : Ready t w n l st k) → p ≤ st.diags + 604000000
  eap_few b = let g = walk_of b e in omega (arith, x.few, g.atoms.rows, g.room.small)

  pub essential_rejected : {q : List ℕ} {s : Scope} {a : Atom} → s ≡ moved st p → word w (statement_cell k 0) ≡ 5 → Owns w n r.label.0 r.at.0 (code.Some a) → p ≢ st.diags
      → GivesPart w w q out out' n st s k
  essential_rejected es kw o ne =
      record {
        sim = λ {t} {l} b pq.
            let ek = kind_e (stmt l k).kind (kind_of b kw) in
            let lab : labelled (stmt l k).kind ≡ true = ap labelled ek in
            let d = check_expression l (view_at l k) (stmt l k) in
            let g = eap_told b (kind_none (stmt l k) $e ek refl) in
            let h = told_some d g ne in
            rw es
            (rejected b {d = d} (kept_none n 12 12 6 7 w) b.stands.marks (eap_checked l k (owned {st = st} e b lab o) ek ∙ accept_some d _ [] h) h (eap_few b) g);
      }

  pub essential_accepted : {u q : List ℕ} {s : Scope} {a : Atom} → s ≡ with_essential st p → word w (statement_cell k 0) ≡ 5 → Owns w n r.label.0 r.at.0 (code.Some a)
      → p ≡ st.diags → u ≡ set w (statement_cell st.es 10) k → GivesPart w u q out out' n st s k
  unfolding accepted
  essential_accepted {u} es kw o eq eu =
      record {
        sim = λ {t} {l} b pq.
            let ek = kind_e (stmt l k).kind (kind_of b kw) in
            let lab : labelled (stmt l k).kind ≡ true = ap labelled ek in
            let d = check_expression l (view_at l k) (stmt l k) in
            let g = eap_told b (kind_none (stmt l k) $e ek refl) in
            let dn : d ≡ [] = told_nothing d g eq in
            let hy : Hyp = essential (stmt l k).at (stmt l k).end (formula l (view_at l k) (stmt l k)) in
            let eg = eap_checked l k (owned {st = st} e b lab o) ek ∙ ap (λ (y : List Diag). give.accept y (give.with_hyp hy) []) dn in
            let er = ap (λ (y : give.Given). y.records) eg in
            let ac : accepted l k ≡ true = ap (λ (y : give.Given). no_diags y.diags) eg in
            let depth : 3 * st.es + 3 ≤ n = omega (arith, row_room b, b.stands.essentials) in
            let ks = kept_statement n 10 11 w st.es 10 k depth (omega arith) (omega arith) (omega arith) in
            let room : statement_cell st.es 10 < length w = omega (arith, b.room.room, depth) in
            rw (es, eu)
            (record {
              kept = kept_wide 10 12 2 7 (omega arith) (omega arith) (omega arith) (omega arith) ks;
              numbers = λ i h. ks.left i 5 h (omega arith) (omega arith);
              stands = record {
                nests = rw (nested_next l k er, append-nil (state_at l k).nested) (nests_kept (atoms_fit b) (omega arith) ks b.stands.nests);
                floats =
                    rw (hyps_next l k er)
                    (floats_essential (stmt l k).at (stmt l k).end (formula l (view_at l k) (stmt l k))
                    (floats_later {o = (stmt l k).at} (omega arith) (omega arith)
                    (floats_kept {k = k} (atoms_fit b) (omega (arith, row_room b)) (omega arith) (λ i h. ks.left i 4 h (omega arith) (omega arith)) ks b.stands.floats)));
                marks = marks_kept (atoms_fit b) (λ i h. ks.left i 6 h (omega arith) (omega arith)) b.stands.marks;
                ess = rw (rows_next is_essential l k, ac, ek) (stack_push b.facts b.inside room b.stands.ess);
                dis =
                    stack_kept (λ i m. ks.high i 11 (entry_room b i (omega (arith, b.stands.disjoints))) (omega arith) (omega arith))
                    (dis_still b (kept_none n 12 12 6 7 w) (ap (λ (y : Kind). and (is_disjoint y) (accepted l k)) ek));
                essentials = omega (arith, b.stands.essentials);
                disjoints = omega (arith, b.stands.disjoints);
                place = omega (arith, eap_few b, b.stands.place);
              };
              told = same_told g (ap (λ (y : give.Given). y.diags) eg ∙ sym dn);
            });
      }

  pub asserted : {q : List ℕ} {s : Scope} {a : Atom} → s ≡ moved st p → 6 ≤ word w (statement_cell k 0) → Owns w n r.label.0 r.at.0 (code.Some a) → GivesPart w w q out out' n st s k
  asserted es kw o =
      record {
        sim = λ {t} {l} b pq.
            let kd = (stmt l k).kind in
            let h : 6 ≤ kind_number kd = omega (arith, kw, b.named.shape.kind k b.inside) in
            let kk = assert_kind kd h in
            let eg = assert_given l k kd (owned {st = st} e b kk.0 o) refl h in
            rw es
            (quiet b (kept_none n 12 12 6 7 w) b.stands.marks eg.1 (ap (λ (y : Bool). and y (accepted l k)) kk.1) (ap (λ (y : Bool). and y (accepted l k)) kk.2)
            (eap_few b) (same_told (eap_told b (assert_none (stmt l k) kd refl h)) eg.0));
      }
