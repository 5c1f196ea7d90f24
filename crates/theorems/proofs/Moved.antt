-- Offsets moved by a rising function: frames, what one statement gives, and what all give one after the other.
-- Recorded ends stay below n or none, since what is recorded carries its statement's end.
use mathlib.Core.Path.{◌≡◌, refl, sym, ap}
use mathlib.Core.List.{List, [], ◌∷◌, ◌++◌, map}
use Prim.Native.Nat.{ℕ, ◌+◌}
use lib.ListN.{length, drop}
use Rattle.paper.specs.Base.{not, keep, gather}
use Rattle.paper.specs.Tokens.{Token}
use Rattle.paper.specs.Statements.{Kind, $c, $v, $d, $f, $e, $a, $p, Statement, outermost}
use Rattle.paper.specs.State.{Formula, Hyp, float, essential, Disjoint, State, nothing, plus, view}
use Rattle.paper.specs.Checks.{Diag, token, check_label, check_float, check_expression, check_disjoint}
use Rattle.paper.specs.Variables.{symbol, formula, formula_in, mandatory, member}
use Rattle.paper.specs.Expressions.{hypothesis, pooled, hypotheses}
use Rattle.paper.specs.Pairs.{outer, inner, in_order}
use Rattle.paper.specs.Frames.{Frame, stub, frame_of}
use Rattle.paper.specs.Give.{Given, accept, unless, with_hyp, with_disjoint, give_c, give_v, give_d, give_f, give_e, give_assertion, give_by, give, gives, all_given}
use Rattle.paper.proofs.Tests.{split}
use Rattle.paper.proofs.Alls.{All, all_none, all_more, all_append, all_map, all_keep}
use Rattle.paper.proofs.Gather.{map_append}
use Rattle.theorems.specs.Moved.{moved_token, moved_statement, moved_hyp, moved_disjoint, moved_state, moved_diag, moved_hypothesis, moved_frame, moved_given, Rises, Ended, PlacedBelow, Moves}
use Rattle.theorems.proofs.Fold.{Carries, carries}
use Rattle.theorems.proofs.Mapped.{keep_mapped, map_mapped}
use Rattle.theorems.proofs.MovedNames.{plus_moved, Fair, none_moved, view_moved, outermost_moved, sense_moved, all_records_moved}
use Rattle.theorems.proofs.MovedChecks.{token_moved, label_moved, outer_moved, diags_moved, expression_moved, disjoint_moved, float_checked}

-- ---- whatever the function
module _ (f : ℕ → ℕ) where
  drop_moved : (l : List Token) → drop 1 (map (moved_token f) l) ≡ map (moved_token f) (drop 1 l)
  drop_moved [] = refl
  drop_moved (t ∷ l) = refl

  formulas_moved : (h : List Hyp) → gather formula_in (map (moved_hyp f) h) ≡ gather formula_in h
  unfolding gather
  formulas_moved [] = refl
  formulas_moved (float o e v c ∷ l) = formulas_moved l
  formulas_moved (essential o e x ∷ l) = ap (λ (r : List Formula). x ∷ r) (formulas_moved l)

  pools_moved : (h : List Hyp) → gather pooled (map (moved_hyp f) h) ≡ gather pooled h
  unfolding gather
  pools_moved [] = refl
  pools_moved (float o e v c ∷ l) = pools_moved l
  pools_moved (essential o e x ∷ l) = rw (pools_moved l)

  mandatory_moved : (h : List Hyp) (x : Formula) → mandatory (map (moved_hyp f) h) x ≡ mandatory h x
  unfolding mandatory
  mandatory_moved h x = rw (formulas_moved h)

  hypothesis_moved : (m : List (List ℕ)) (h : Hyp) (a : ℕ) → hypothesis m (moved_hyp f h) a ≡ map (moved_hypothesis f) (hypothesis m h a)
  hypothesis_moved m (float o e v c) a = split (member v m) (λ z. rw z) (λ z. rw z)
  hypothesis_moved m (essential o e x) a = refl

  pooled_moved : (h : Hyp) → pooled (moved_hyp f h) ≡ pooled h
  pooled_moved (float o e v c) = refl
  pooled_moved (essential o e x) = refl

  hypotheses_moved : (m : List (List ℕ)) (h : List Hyp) (a : ℕ)
      → hypotheses m (map (moved_hyp f) h) a ≡ map (moved_hypothesis f) (hypotheses m h a)
  unfolding hypotheses
  hypotheses_moved m [] a = refl
  hypotheses_moved m (x ∷ l) a =
      rw (hypothesis_moved m x a, pooled_moved x, hypotheses_moved m l (a + length (pooled x)))
      (sym (map_append (moved_hypothesis f) (hypothesis m x a) (hypotheses m l (a + length (pooled x)))))

  accept_moved : (d : List Diag) (x : State) (y : List Frame)
      → accept (map (moved_diag f) d) (moved_state f x) (map (moved_frame f) y) ≡ moved_given f (accept d x y)
  accept_moved [] x y = refl
  accept_moved (z ∷ d) x y = refl

  unless_moved : (d : List Diag) (g : Given) → unless (map (moved_diag f) d) (moved_given f g) ≡ moved_given f (unless d g)
  unless_moved [] g = refl
  unless_moved (z ∷ d) g = refl

  names_moved : (l : List Token) → map (λ t. t.bytes) (map (moved_token f) l) ≡ map (λ t. t.bytes) l
  names_moved l = map_mapped (λ t. t.bytes) (moved_token f) (λ t. t.bytes) (λ t. refl) l

-- ---- ends that are recorded
fair_carries : {n e : ℕ} {x : State} → Ended n e → Carries e x → Fair n x
fair_carries h c =
    record {
      nested = all_map (λ y z. rw z h) c.nested;
      hyps = all_map (λ y z. rw z h) c.hyps;
      disjoints = all_map (λ y z. rw z h) c.disjoints;
    }

fair_plus : {n : ℕ} {x y : State} → Fair n x → Fair n y → Fair n (plus x y)
fair_plus a b =
    record {
      nested = all_append a.nested b.nested;
      hyps = all_append a.hyps b.hyps;
      disjoints = all_append a.disjoints b.disjoints;
    }

fair_view : {n : ℕ} {x : State} (o : ℕ) → Fair n x → Fair n (view x o)
unfolding view
fair_view o a =
    record { nested = all_keep _ a.nested; hyps = all_keep _ a.hyps; disjoints = all_keep _ a.disjoints }

-- ---- a rising function
module _ {f : ℕ → ℕ} {n : ℕ} (r : Rises f n) where
  order_moved : {d : List Disjoint} → All (λ x. Ended n x.end) d → in_order (map (moved_disjoint f) d) ≡ in_order d
  unfolding in_order
  order_moved {d} h =
      rw (
        keep_mapped (moved_disjoint f) outer outer (all_map (λ x z. none_moved r x.end z) h),
        keep_mapped (moved_disjoint f) inner inner (all_map (λ x z. ap not (none_moved r x.end z)) h),
        ← (map_append (moved_disjoint f) (keep outer d) (keep inner d)),
      )
      (map_mapped (λ x. x.names) (moved_disjoint f) (λ x. x.names) (λ x. refl) (keep outer d ++ keep inner d))

  frame_moved : (k : ℕ) (s : Statement) (v : State) (x : Formula) → Fair n v
      → frame_of k (moved_statement f s) (moved_state f v) x ≡ moved_frame f (frame_of k s v x)
  unfolding frame_of
  frame_moved k s v x h =
      rw (
        mandatory_moved f v.hyps x,
        order_moved h.disjoints,
        pools_moved f v.hyps,
        hypotheses_moved f (mandatory v.hyps x) v.hyps 0,
      )

  module _ {w : List Statement} (a : All (PlacedBelow n) w) where
    formula_moved : (v : State) (s : Statement)
        → formula (map (moved_statement f) w) (moved_state f v) (moved_statement f s) ≡ formula w v s
    unfolding formula
    formula_moved v s =
        rw (
          token_moved r s 0,
          drop_moved f s.math,
          map_mapped (symbol (map (moved_statement f) w) (moved_state f v)) (moved_token f) (symbol w v) (λ t. rw (sense_moved r a v t)) (drop 1 s.math),
        )

    assertion_moved : (k : ℕ) (v : State) (s : Statement) → Fair n v
        → give_assertion k (map (moved_statement f) w) (moved_state f v) (moved_statement f s) ≡ moved_given f (give_assertion k w v s)
    unfolding give_assertion
    assertion_moved k v s h =
        rw (
          label_moved r w s,
          expression_moved r a v s,
          formula_moved v s,
          frame_moved k s v (formula w v s) h,
          accept_moved f (check_expression w v s) nothing (frame_of k s v (formula w v s) ∷ []),
        )
        (unless_moved f (check_label w s) (accept (check_expression w v s) nothing (frame_of k s v (formula w v s) ∷ [])))

    give_moved : (k : Kind) (v : State) (s : Statement) → Fair n v → PlacedBelow n s
        → give_by k (map (moved_statement f) w) (moved_state f v) (moved_statement f s) ≡ moved_given f (give_by k w v s)
    unfolding give_c give_v give_d give_f give_e
    give_moved $c v s h p =
        rw (outermost_moved r s p.end, outer_moved r a s) (split (outermost s) (λ z. rw z) (λ z. rw z))
    give_moved $v v s h p =
        rw (
          outermost_moved r s p.end,
          outer_moved r a s,
          diags_moved r a s.at s.end s.math 0 v.nested,
          all_records_moved r a s.end s.math v.nested,
        )
        (split (outermost s) (λ z. rw z) (λ z. rw z))
    give_moved $d v s h p =
        rw (disjoint_moved r a v s, names_moved f s.math)
        (accept_moved f (check_disjoint w v s) (with_disjoint (record { end = s.end; names = map (λ t. t.bytes) s.math })) [])
    give_moved $f v s h p =
        let x = with_hyp (float s.at s.end (token s 1).bytes (token s 0).bytes) in
        let y = stub s.at s.end s.label (token s 0).bytes (token s 1).bytes ∷ [] in
        rw (label_moved r w s, float_checked r a v s, token_moved r s 0, token_moved r s 1, accept_moved f (check_float w v s) x y)
        (unless_moved f (check_label w s) (accept (check_float w v s) x y))
    give_moved $e v s h p =
        let x = with_hyp (essential s.at s.end (formula w v s)) in
        rw (label_moved r w s, expression_moved r a v s, formula_moved v s, accept_moved f (check_expression w v s) x [])
        (unless_moved f (check_label w s) (accept (check_expression w v s) x []))
    give_moved $a v s h p = assertion_moved 2 v s h
    give_moved $p v s h p = assertion_moved 3 v s h

    gives_moved : {l : List Statement} → All (PlacedBelow n) l → (x : State) → Fair n x
        → gives (map (moved_statement f) w) (map (moved_statement f) l) (moved_state f x) ≡ map (moved_given f) (gives w l x)
    unfolding gives give
    gives_moved all_none x h = refl
    gives_moved (all_more {x = s} {l = l} p b) x h =
        let v = view x s.at in
        let g = give_by s.kind w v s in
        rw (
          view_moved r x s.at p.at h,
          give_moved s.kind v s (fair_view s.at h) p,
          ← (plus_moved f x g.records),
          gives_moved b (plus x g.records) (fair_plus h (fair_carries p.end (carries w v s))),
        )

-- ---- the theorem
pub moves : Moves
unfolding all_given
moves f n r w a =
    gives_moved r a a nothing (record { nested = all_none; hyps = all_none; disjoints = all_none })
