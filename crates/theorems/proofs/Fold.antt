-- The fold over the statements: one part after another, and what a group has recorded is inactive after it.
-- The lemmas F1 to F7 of the proof on paper.
use mathlib.Core.Path.{◌≡◌, refl, sym, ap, ◌∙◌, subst}
use mathlib.Core.List.{List, [], ◌∷◌, ◌++◌, append-nil}
use Prim.Native.Nat.{ℕ, ◌<◌, ◌≤◌}
use native.Mathlib.Omega.{arith}
use borrow.Author.Tests.{le-ltb}
use Rattle.paper.specs.Tokens.{Token}
use Rattle.paper.specs.Statements.{Kind, $c, $v, $d, $f, $e, $a, $p, Statement, none_end, outermost}
use Rattle.paper.specs.State.{Nested, hyp_end, State, nothing, plus, active_nested, active_hyp, active_disjoint, view}
use Rattle.paper.specs.Checks.{Diag, Verdict, against, record_it, verdict, recorded_by, records, nested_records, check_label, check_float, check_expression, check_disjoint}
use Rattle.paper.specs.Frames.{Frame}
use Rattle.paper.specs.Give.{Given, accept, unless, give_c, give_v, give_d, give_f, give_e, give_assertion, give_by, give, gives, all_given}
use Rattle.paper.proofs.Tests.{split}
use Rattle.paper.proofs.Lists.{keep_append}
use Rattle.paper.proofs.Alls.{All, all_none, all_more, all_append, all_left, all_right, all_map, keep_none}
use Rattle.theorems.specs.Groups.{Apart}
use Rattle.theorems.proofs.Three.{Three}
use Rattle.theorems.proofs.Agree.{same_given, give_same}
use Rattle.theorems.proofs.Whole.{AgreeAll, agree}

-- ---- F2: the statements one part after another
-- the state after some statements
unfoldable pub later : List Statement → List Statement → State → State
later w [] x = x
later w (s ∷ l) x = later w l (plus x (give w (view x s.at) s).records)

pub gives_append : (w a b : List Statement) (x : State) → gives w (a ++ b) x ≡ gives w a x ++ gives w b (later w a x)
unfolding gives later
gives_append w [] b x = refl
gives_append w (s ∷ a) b x =
    ap (λ (r : List Given). give w (view x s.at) s ∷ r) (gives_append w a b (plus x (give w (view x s.at) s).records))

pub later_append : (w a b : List Statement) (x : State) → later w (a ++ b) x ≡ later w b (later w a x)
unfolding later
later_append w [] b x = refl
later_append w (s ∷ a) b x = later_append w a b (plus x (give w (view x s.at) s).records)

-- ---- F1: recorded things carry their statement's end
pub record Carries (e : ℕ) (r : State) : Type 0 where
  pub nested : All (λ x. x.end ≡ e) r.nested
  pub hyps : All (λ x. hyp_end x ≡ e) r.hyps
  pub disjoints : All (λ x. x.end ≡ e) r.disjoints

carries_nothing : (e : ℕ) → Carries e nothing
carries_nothing e = record { nested = all_none; hyps = all_none; disjoints = all_none }

accept_carries : (d : List Diag) {e : ℕ} {r : State} (f : List Frame) → Carries e r
    → Carries e (accept d r f).records
accept_carries [] f c = c
accept_carries (x ∷ d) {e} f c = carries_nothing e

unless_carries : (d : List Diag) {e : ℕ} (g : Given) → Carries e g.records → Carries e (unless d g).records
unless_carries [] g c = c
unless_carries (x ∷ d) {e} g c = carries_nothing e

recorded_carries : (v : Verdict) (e : ℕ) (t : Token) → All (λ x. x.end ≡ e) (recorded_by v e t)
recorded_carries (against k o) e t = all_none
recorded_carries record_it e t = all_more refl all_none

records_carry : (w : List Statement) (e : ℕ) (l : List Token) (k : List Nested)
    → All (λ x. x.end ≡ e) (nested_records w e l k)
unfolding nested_records records
records_carry w e [] k = all_none
records_carry w e (t ∷ l) k =
    all_append (recorded_carries (verdict w k t) e t) (records_carry w e l (k ++ recorded_by (verdict w k t) e t))

carries_by : (k : Kind) (w : List Statement) (v : State) (s : Statement) → Carries s.end (give_by k w v s).records
unfolding give_c give_v give_d give_f give_e give_assertion
carries_by $c w v s =
    split (outermost s) (λ e. rw e (carries_nothing s.end)) (λ e. rw e (carries_nothing s.end))
carries_by $v w v s =
    split (outermost s)
    (λ e. rw e (carries_nothing s.end))
    (λ e. rw e (record { nested = records_carry w s.end s.math v.nested; hyps = all_none; disjoints = all_none }))
carries_by $d w v s =
    accept_carries (check_disjoint w v s) [] (record { nested = all_none; hyps = all_none; disjoints = all_more refl all_none })
carries_by $f w v s =
    unless_carries (check_label w s) _
    (accept_carries (check_float w v s) _ (record { nested = all_none; hyps = all_more refl all_none; disjoints = all_none }))
carries_by $e w v s =
    unless_carries (check_label w s) _
    (accept_carries (check_expression w v s) _ (record { nested = all_none; hyps = all_more refl all_none; disjoints = all_none }))
carries_by $a w v s =
    unless_carries (check_label w s) _ (accept_carries (check_expression w v s) _ (carries_nothing s.end))
carries_by $p w v s =
    unless_carries (check_label w s) _ (accept_carries (check_expression w v s) _ (carries_nothing s.end))

pub carries : (w : List Statement) (v : State) (s : Statement) → Carries s.end (give w v s).records
unfolding give
carries w v s = carries_by s.kind w v s

-- ---- F4, F5: what ends by an offset is not seen from there on
pub spent : {e : ℕ} {r : State} (a : ℕ) → Carries e r → e ≤ a → view r a ≡ nothing
unfolding view
spent {e} a c h =
    rw (
      keep_none (active_nested a) (all_map (λ x k. le-ltb a x.end (omega arith)) c.nested),
      keep_none (active_hyp a) (all_map (λ x k. le-ltb a (hyp_end x) (omega arith)) c.hyps),
      keep_none (active_disjoint a) (all_map (λ x k. le-ltb a x.end (omega arith)) c.disjoints),
    )

pub view_plus : (x y : State) (a : ℕ) → view (plus x y) a ≡ plus (view x a) (view y a)
unfolding view
view_plus x y a =
    rw (
      keep_append (active_nested a) x.nested y.nested,
      keep_append (active_hyp a) x.hyps y.hyps,
      keep_append (active_disjoint a) x.disjoints y.disjoints,
    )

pub plus_nothing : (x : State) → plus x nothing ≡ x
plus_nothing x = rw (append-nil x.nested, append-nil x.hyps, append-nil x.disjoints)

-- alike at every offset above q
abbrev pub Alike : ℕ → State → State → Type 0
Alike q x y = (a : ℕ) → q < a → view x a ≡ view y a

pub quiet : {q : ℕ} (w : List Statement) {l : List Statement} → All (λ s. s.end ≤ q) l → (x : State)
    → Alike q (later w l x) x
unfolding later
quiet w all_none x a h = refl
quiet w (all_more {x = s} k b) x a h =
    let r = (give w (view x s.at) s).records in
    quiet w b (plus x r) a h
    ∙ (view_plus x r a
    ∙ (ap (plus (view x a)) (spent a (carries w (view x s.at) s) (omega arith))
    ∙ plus_nothing (view x a)))

give_equal : {w u : List Statement} {s : Statement} → AgreeAll w u s → (v : State) → give w v s ≡ give u v s
give_equal a v = same_given (give_same a.agree v) a.symbols_agree

-- ---- F3: before the group
pub before_same : {w u l : List Statement} → All (AgreeAll w u) l → (x : State)
    → (gives w l x ≡ gives u l x) × (later w l x ≡ later u l x)
unfolding gives later
before_same all_none x = (refl, refl)
before_same {w} {u} (all_more {x = s} {l = l} h a) x =
    let e = give_equal h (view x s.at) in
    let r = before_same a (plus x (give u (view x s.at) s).records) in
    (rw e (ap (λ (k : List Given). give u (view x s.at) s ∷ k) r.0), rw e r.1)

-- ---- F6: after the group
pub behind_same : {w u : List Statement} {q : ℕ} {l : List Statement} (x y : State) → Alike q x y → All (λ s. q < s.at) l
    → All (AgreeAll w u) l → gives w l x ≡ gives u l y
unfolding gives
behind_same x y k all_none all_none = refl
behind_same {w} {u} {q = q} x y k (all_more {x = s} p b) (all_more h a) =
    let g = give u (view y s.at) s in
    let v : view x s.at ≡ view y s.at = k s.at p in
    let e : give w (view x s.at) s ≡ g = rw v (give_equal h (view y s.at)) in
    let f : Alike q (plus x g.records) (plus y g.records) =
    λ c d. view_plus x g.records c ∙ (rw (k c d) (sym (view_plus y g.records c))) in
    rw e (ap (λ (r : List Given). g ∷ r) (behind_same (plus x g.records) (plus y g.records) f b a))

-- ---- F7
pub record Parted (w x : List Statement) (h : List Statement) (i : List Statement) (b : List Statement) : Type 0 where
  pub first : State
  pub third : State
  pub whole : all_given w ≡ gives w h nothing ++ (gives w i first ++ gives w b third)
  pub without : all_given x ≡ gives w h nothing ++ gives w b third

pub parted : {w x : List Statement} {p q : ℕ} (h : Three w x p q) → q < none_end → Apart w p q
    → Parted w x h.before h.within_it h.behind
unfolding all_given
parted {w} {x} {p} {q} h k a =
    let g : All (AgreeAll w x) (h.before ++ h.behind) = subst (All (AgreeAll w x)) h.without (agree h a k) in
    let b = before_same (all_left h.before h.behind g) nothing in
    let first = later w h.before nothing in
    let third = later w h.within_it first in
    let alike : Alike q third (later x h.before nothing) =
    λ c d. quiet w h.within_end first c d ∙ ap (λ (y : State). view y c) b.1 in
    let c = behind_same third (later x h.before nothing) alike h.behind_at (all_right h.before h.behind g) in
    record {
      first = first;
      third = third;
      whole =
          ap (λ (l : List Statement). gives w l nothing) h.whole
          ∙ (gives_append w h.before (h.within_it ++ h.behind) nothing
          ∙ ap (λ (r : List Given). gives w h.before nothing ++ r) (gives_append w h.within_it h.behind first));
      without =
          ap (λ (l : List Statement). gives x l nothing) h.without
          ∙ (gives_append x h.before h.behind nothing
          ∙ (ap (λ (r : List Given). r ++ gives x h.behind (later x h.before nothing)) (sym b.0)
          ∙ ap (λ (r : List Given). gives w h.before nothing ++ r) (sym c)));
    }
