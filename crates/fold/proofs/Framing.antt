-- What the words stand for after the checks of an accepted assertion is what its frame asks for.
-- `k` is its row, `st` the state after its checks.
use mathlib.Core.Path.{◌≡◌, refl, sym, ap, ◌∙◌}
use mathlib.Core.Bool.{Bool, true, false}
use mathlib.Core.List.{List, [], ◌∷◌, map, append-nil}
use Prim.Native.Nat.{ℕ, ◌+◌, ◌<◌}
use native.Mathlib.Nat.{not-suc-le-zero}
use native.Mathlib.Omega.{arith}
use Rattle.paper.specs.Base.{or, sameb, any, keep}
use Rattle.paper.specs.Statements.{Kind, $c, $v, $d, $f, $e, $a, $p, Statement}
use Rattle.paper.specs.State.{view}
use Rattle.paper.specs.Variables.{formula, member, mandatory}
use Rattle.paper.specs.Pairs.{in_order}
use Rattle.paper.proofs.Tests.{split, clash, same_eq}
use Rattle.paper.proofs.Alls.{All, all_none, all_more, all_keep, two_keep}
use Rattle.reader.specs.Rows.{stmt}
use Rattle.facts.specs.States.{state_at, view_at, given_at}
use Rattle.facts.proofs.Order.{ahead, text_order}
use Rattle.sight.specs.Static.{row_hyp, row_disjoint, stack}
use Rattle.sight.proofs.Stacks.{stack_at}
use Rattle.slots.specs.Slots.{Floats}
use Rattle.slots.specs.Stack.{row_active}
use Rattle.slots.proofs.Marks.{marks_left}
use Rattle.scopeck.specs.declared.Scope.{Scope}
use Rattle.scopeck.proofs.Ready.{apart_of}
use Rattle.history.specs.Accepted.{accepted, is_hyp, is_disjoint, rows_of}
use Rattle.history.specs.Accepted as history
use Rattle.history.proofs.Static.{formula_static}
use Rattle.history.proofs.Rows.{hyps_by_rows}
use Rattle.history.proofs.Active.{hyps_active, disjoints_active, rows_next, rows_all, rows_below, rows_rise, essential_rows}
use Rattle.history.proofs.Floats.{Floating, mandatory_floats}
use Rattle.history.proofs.Framed.{frame_by_rows}
use Rattle.forms.specs.HypRows.{floating, is_essential, variable_at, HypRows}
use Rattle.disjoint.specs.Written.{names_at}
use Rattle.frames.specs.Front.{record_kind}
use Rattle.frames.specs.Assert.{frame_at, needed, Framing}
use Rattle.fold.specs.Turn.{Turn}
use Rattle.fold.proofs.Rows.{all_among, rises, keep_swap}
use Rattle.fold.proofs.Apart.{rows_apart}
use Rattle.fold.proofs.Given.{asserts}
use Rattle.fold.proofs.Floats.{active_rows, float_found, float_one}

-- ---- an assertion is recorded nowhere
no_hyp : (q : Kind) → 0 < record_kind q → is_hyp q ≡ false
no_hyp $c h = refl
no_hyp $v h = refl
no_hyp $d h = refl
no_hyp $f h = absurd (omega arith)
no_hyp $e h = absurd (omega arith)
no_hyp $a h = refl
no_hyp $p h = refl

no_essential : (q : Kind) → is_hyp q ≡ false → history.is_essential q ≡ false
no_essential $c e = refl
no_essential $v e = refl
no_essential $d e = refl
no_essential $f e = refl
no_essential $e e = e
no_essential $a e = refl
no_essential $p e = refl

no_disjoint : (q : Kind) → 0 < record_kind q → is_disjoint q ≡ false
no_disjoint $c h = refl
no_disjoint $v h = refl
no_disjoint $d h = absurd (omega arith)
no_disjoint $f h = refl
no_disjoint $e h = refl
no_disjoint $a h = refl
no_disjoint $p h = refl

rows_still : (q : Kind → Bool) (l : List Statement) (k : ℕ) → q (stmt l k).kind ≡ false → rows_of q l (k + 1) ≡ rows_of q l k
rows_still q l k e = rows_next q l k ∙ rw e (append-nil (rows_of q l k))

-- a hypothesis is a `$f` or a `$e`
hyp_kinds : (q : Kind) → is_hyp q ≡ true → or (floating q) (history.is_essential q) ≡ true
hyp_kinds $c e = e
hyp_kinds $v e = e
hyp_kinds $d e = e
hyp_kinds $f e = e
hyp_kinds $e e = e
hyp_kinds $a e = e
hyp_kinds $p e = e

map_names : (l : List Statement) (d : List ℕ) → map (λ x. x.names) (map (row_disjoint l) d) ≡ map (names_at l) d
map_names l [] = refl
map_names l (r ∷ d) = ap (λ m. names_at l r ∷ m) (map_names l d)

member_all : {P : List ℕ → Type 0} {m : List (List ℕ)} → All P m → (x : List ℕ) → member x m ≡ true → P x
unfolding any
member_all all_none x e = absurd (clash (sym e))
member_all {P = P} (all_more {x = y} p a) x e =
    split (sameb x y)
    (λ q. let i : y ≡ x = sym (same_eq x y q) in rw i at p)
    (λ q. member_all a x (rw q at e))

module _ {t w : List ℕ} {n : ℕ} {l : List Statement} {st : Scope} {k : ℕ} (b : Turn t w n l st k) (kind : 0 < record_kind (stmt l k).kind) where
  hyps_still : (state_at l (k + 1)).hyps ≡ (state_at l k).hyps
  hyps_still =
      hyps_by_rows l (k + 1)
      ∙ ap (map (row_hyp l)) (rows_still is_hyp l k (no_hyp (stmt l k).kind kind))
      ∙ sym (hyps_by_rows l k)

  floats : Floats w n l (state_at l k).hyps (k + 1) (stmt l k).at
  floats = rw hyps_still at b.stands.floats

  -- the stacks
  essentials : keep (is_essential l) (active_rows l k) ≡ stack w 10 st.es
  unfolding active_rows
  essentials =
      keep_swap (is_essential l) (row_active l (stmt l k).at) (rows_of is_hyp l k)
      ∙ ap (keep (row_active l (stmt l k).at))
      (sym (essential_rows l k)
      ∙ sym (rows_still history.is_essential l k (no_essential (stmt l k).kind (no_hyp (stmt l k).kind kind))))
      ∙ sym b.stands.ess.holds

  pub disjoints : keep (row_active l (stmt l k).at) (rows_of is_disjoint l k) ≡ stack w 11 st.ds
  disjoints =
      ap (keep (row_active l (stmt l k).at)) (sym (rows_still is_disjoint l k (no_disjoint (stmt l k).kind kind)))
      ∙ sym b.stands.dis.holds

  ordered : in_order (map (row_disjoint l) (stack w 11 st.ds)) ≡ map (names_at l) (stack w 11 st.ds)
  ordered =
      let e : (view (state_at l k) (stmt l k).at).disjoints ≡ map (row_disjoint l) (stack w 11 st.ds) =
      disjoints_active l k (stmt l k).at ∙ ap (map (row_disjoint l)) disjoints in
      ap in_order (sym e)
      ∙ text_order b.facts k (stmt l k).at (omega (arith, b.inside)) (ahead b.facts k b.inside)
      ∙ ap (map (λ d. d.names)) e
      ∙ map_names l (stack w 11 st.ds)

  module _ (a : accepted l k ≡ true) where
    -- the mandatory variables are those of the definition
    needed_floats : All (Floating (view_at l k)) (needed l (active_rows l k) k)
    unfolding needed active_rows view_at
    needed_floats =
        let c = (asserts l k kind a).clean in
        let e : mandatory (view_at l k).hyps (formula l (view_at l k) (stmt l k)) ≡ needed l (active_rows l k) k =
        ap (λ h. mandatory h (formula l (view_at l k) (stmt l k))) (hyps_active l k (stmt l k).at)
        ∙ ap (mandatory (map (row_hyp l) (active_rows l k))) (formula_static l k c) in
        rw e at (mandatory_floats b.facts k b.inside c)

    hyp_rows : HypRows w n l (needed l (active_rows l k) k) (active_rows l k) st.es k
    unfolding active_rows view_at
    hyp_rows =
        record {
          rises = rises (two_keep (row_active l (stmt l k).at) (rows_rise is_hyp l k));
          below = all_among (all_keep (row_active l (stmt l k).at) (rows_below is_hyp l k));
          kinds = λ r i. hyp_kinds (stmt l r).kind (all_among hyp_all r i);
          essentials = essentials;
          floats = λ x m. float_found b.facts b.inside floats x (member_all needed_floats x m);
          only = λ r i f m.
              let g = float_found b.facts b.inside floats (variable_at l r) (member_all needed_floats (variable_at l r) m) in
              let e : g.row ≡ r = float_one b.facts b.inside floats g.row r g.inside i g.float f g.variable in
              omega (arith, g.said, e);
        }
      where
        hyp_all : All (λ r. is_hyp (stmt l r).kind ≡ true) (active_rows l k)
        hyp_all = all_keep (row_active l (stmt l k).at) (rows_all is_hyp l (λ r. is_hyp (stmt l r).kind ≡ true) k (λ r g e z. e))

    pub framing_of : Framing t w n l (active_rows l k) k st.es st.ds
    unfolding active_rows
    framing_of =
        record {
          assertion = record { named = b.named; facts = b.facts; small = b.room.small; here = b.inside; kind = kind };
          none_numbered = b.free;
          hyps = hyp_rows;
          kinds = all_keep (row_active l (stmt l k).at) (rows_all is_hyp l (λ r. is_hyp (stmt l r).kind ≡ true) k (λ r g e z. e));
          inside = λ j h. omega (arith, stack_at w 10 st.es j h, b.stands.ess.rows j h, b.inside);
          deep = omega (arith, b.stands.essentials, b.inside);
          apart = rw disjoints at (all_keep (row_active l (stmt l k).at) (rows_apart l k (omega (arith, b.inside))));
          depth = omega (arith, b.stands.disjoints, b.inside);
          ordered = ordered;
          marks = λ i h.
              marks_left {d = []} 0 b.stands.marks (λ j g. absurd (not-suc-le-zero g)) (apart_of l) i h
              (λ j g m. absurd (not-suc-le-zero m));
        }

    pub frame_given : (given_at l k).frame ≡ frame_at l (active_rows l k) (stack w 11 st.ds) k ∷ []
    unfolding frame_at active_rows
    frame_given =
        let x = asserts l k kind a in
        x.frame
        ∙ ap (λ y. y ∷ []) (frame_by_rows l k (record_kind (stmt l k).kind) x.clean)
        ∙ rw disjoints
