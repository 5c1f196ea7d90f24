-- Offsets moved by a rising function: owners, global declarations, what is active, the senses of tokens and the verdicts on them.
-- All that compares offsets stands here.
use mathlib.Core.Path.{◌≡◌, refl, sym, ap, ◌∙◌}
use mathlib.Core.Bool.{true, false}
use mathlib.Core.List.{List, [], ◌∷◌, ◌++◌, map}
use mathlib.Core.Option.{Option, none, some}
use Prim.Native.Nat.{ℕ, zero, suc, ◌<◌, ◌≤◌}
use native.Mathlib.Omega.{arith}
use lib.Dec.{eqb, ltb}
use borrow.Author.Tests.{eq-eqb, ne_eqb, lt-ltb, le-ltb, eqb-true, ltb-true, ltb-false}
use Rattle.paper.specs.Base.{gather}
use Rattle.paper.specs.Tokens.{Token}
use Rattle.paper.specs.Statements.{Kind, $c, $v, $d, $f, $e, $a, $p, labelled, Statement, none_end, outermost}
use Rattle.paper.specs.Names.{named, bearer, labels, owner, Declared, declares, declared_by, declarations, declared, declares_name, global}
use Rattle.paper.specs.State.{Nested, Hyp, float, essential, hyp_end, State, plus, active_nested, active_hyp, active_disjoint, view, nested_name, nested_of, float_name, float_of, Sense, by_nested, by_global, sense}
use Rattle.paper.specs.Checks.{Verdict, against, record_it, by_known, by_declared, verdict, recorded_by, records, nested_records}
use Rattle.paper.proofs.Tests.{split, eqb_ne}
use Rattle.paper.proofs.Alls.{All, all_map, all_of}
use Rattle.paper.proofs.Gather.{map_append}
use Rattle.theorems.specs.Moved.{moved_end, moved_token, moved_statement, moved_nested, moved_hyp, moved_disjoint, moved_state, Rises, Ended, PlacedBelow}
use Rattle.theorems.proofs.Mapped.{map_option, keep_mapped, find_mapped, latest_mapped, gather_mapped, map_mapped}

-- ---- whatever the function
module _ (f : ℕ → ℕ) where
  bearer_moved : (s : Statement) → bearer (moved_statement f s) ≡ map (moved_token f) (bearer s)
  bearer_moved s = split (labelled s.kind) (λ z. rw z) (λ z. rw z)

  pub owner_moved : (w : List Statement) (n : List ℕ)
      → owner (map (moved_statement f) w) n ≡ map_option (moved_token f) (owner w n)
  unfolding owner labels
  owner_moved w n =
      rw (gather_mapped (moved_statement f) (moved_token f) bearer bearer (all_of w bearer_moved))
      (find_mapped (moved_token f) (named n) (named n) (λ t. refl) (gather bearer w))

  abbrev pub moved_declared : Declared → Declared
  moved_declared d = record { name = d.name; at = f d.at; constant = d.constant }

  by_kind_moved : (k : Kind) (m : List Token) → declared_by k (map (moved_token f) m) ≡ map moved_declared (declared_by k m)
  by_kind_moved $c m =
      map_mapped (declares true) (moved_token f) (λ t. moved_declared (declares true t)) (λ t. refl) m
      ∙ sym (map_mapped moved_declared (declares true) (λ t. moved_declared (declares true t)) (λ t. refl) m)
  by_kind_moved $v m =
      map_mapped (declares false) (moved_token f) (λ t. moved_declared (declares false t)) (λ t. refl) m
      ∙ sym (map_mapped moved_declared (declares false) (λ t. moved_declared (declares false t)) (λ t. refl) m)
  by_kind_moved $d m = refl
  by_kind_moved $f m = refl
  by_kind_moved $e m = refl
  by_kind_moved $a m = refl
  by_kind_moved $p m = refl

  by_nested_moved : (x : Option Nested) → by_nested (map_option (moved_nested f) x) ≡ by_nested x
  by_nested_moved none = refl
  by_nested_moved (some x) = refl

  nested_moved : (l : List Nested) (n : List ℕ) → nested_of (map (moved_nested f) l) n ≡ map_option (moved_nested f) (nested_of l n)
  unfolding nested_of
  nested_moved l n = latest_mapped (moved_nested f) (nested_name n) (nested_name n) (λ x. refl) l

  float_named : (n : List ℕ) (x : Hyp) → float_name n (moved_hyp f x) ≡ float_name n x
  float_named n (float o e v c) = refl
  float_named n (essential o e x) = refl

  pub float_moved : (l : List Hyp) (n : List ℕ) → float_of (map (moved_hyp f) l) n ≡ map_option (moved_hyp f) (float_of l n)
  unfolding float_of
  float_moved l n = latest_mapped (moved_hyp f) (float_name n) (float_name n) (float_named n) l

  pub plus_moved : (x y : State) → moved_state f (plus x y) ≡ plus (moved_state f x) (moved_state f y)
  plus_moved x y =
      rw (map_append (moved_nested f) x.nested y.nested, map_append (moved_hyp f) x.hyps y.hyps, map_append (moved_disjoint f) x.disjoints y.disjoints)

  abbrev pub moved_verdict : Verdict → Verdict
  moved_verdict (against k o) = against k (f o)
  moved_verdict record_it = record_it

  known_moved : (x : Option Nested) → by_known (map_option (moved_nested f) x) ≡ moved_verdict (by_known x)
  known_moved none = refl
  known_moved (some x) = refl

  recorded_moved : (v : Verdict) (e : ℕ) (t : Token)
      → recorded_by (moved_verdict v) (moved_end f e) (moved_token f t) ≡ map (moved_nested f) (recorded_by v e t)
  recorded_moved (against k o) e t = refl
  recorded_moved record_it e t = refl

  end_moved : (x : Hyp) → hyp_end (moved_hyp f x) ≡ moved_end f (hyp_end x)
  end_moved (float o e v c) = refl
  end_moved (essential o e x) = refl

-- ---- a rising function
-- every end that is recorded is below n, or none
pub record Fair (n : ℕ) (x : State) : Type 0 where
  pub nested : All (λ y. Ended n y.end) x.nested
  pub hyps : All (λ y. Ended n (hyp_end y)) x.hyps
  pub disjoints : All (λ y. Ended n y.end) x.disjoints

module _ {f : ℕ → ℕ} {n : ℕ} (r : Rises f n) where
  pub at_least : (a : ℕ) → a ≤ f a
  at_least zero = omega arith
  at_least (suc a) = omega (arith, at_least a, r.rising a (suc a) (omega arith))

  falling : (a b : ℕ) → b ≤ a → f b ≤ f a
  falling a b h =
      split (eqb b a)
      (λ e. let i : b ≡ a = eqb-true b a e in rw i (omega arith))
      (λ e. let c : (b ≡ a) → ⊥ = eqb_ne e in omega (arith, r.rising b a (omega arith)))

  pub less_moved : (a b : ℕ) → ltb (f a) (f b) ≡ ltb a b
  less_moved a b =
      split (ltb a b)
      (λ e. lt-ltb (f a) (f b) (r.rising a b (ltb-true a b e)) ∙ sym e)
      (λ e. le-ltb (f a) (f b) (falling a b (ltb-false a b e)) ∙ sym e)

  pub same_moved : (a b : ℕ) → eqb (f a) (f b) ≡ eqb a b
  same_moved a b =
      split (eqb a b)
      (λ e. let i : a ≡ b = eqb-true a b e in eq-eqb (f a) (f b) (ap f i) ∙ sym e)
      (λ e. ne_eqb (f a) (f b) (apart e) ∙ sym e)
    where
      apart : eqb a b ≡ false → f a ≡ f b → ⊥
      apart e i =
          split (ltb a b)
          (λ z. let k = r.rising a b (ltb-true a b z) in omega (arith, k, i))
          (λ z. let d : (a ≡ b) → ⊥ = eqb_ne e in let k = r.rising b a (omega (arith, ltb-false a b z)) in omega (arith, k, i))

  pub none_moved : (e : ℕ) → Ended n e → eqb (moved_end f e) none_end ≡ eqb e none_end
  none_moved e h =
      split (eqb e none_end)
      (λ z. rw z)
      (λ z. rw z (ne_eqb (f e) none_end (λ i. let k = r.below e (h z) in omega (arith, k, i))))

  pub active_moved : (o e : ℕ) → o < n → Ended n e → ltb (f o) (moved_end f e) ≡ ltb o e
  active_moved o e k h =
      split (eqb e none_end)
      (λ z. let i : e ≡ none_end = eqb-true e none_end z in
      rw z (lt-ltb (f o) none_end (r.below o k) ∙ sym (lt-ltb o e (omega (arith, i, at_least o, r.below o k)))))
      (λ z. rw z (less_moved o e))

  pub view_moved : (x : State) (o : ℕ) → o < n → Fair n x → view (moved_state f x) (f o) ≡ moved_state f (view x o)
  unfolding view
  view_moved x o k h =
      rw (
        keep_mapped (moved_nested f) (active_nested (f o)) (active_nested o) (all_map (λ y z. active_moved o y.end k z) h.nested),
        keep_mapped (moved_hyp f) (active_hyp (f o)) (active_hyp o) (all_map (λ y z. ap (ltb (f o)) (end_moved f y) ∙ active_moved o (hyp_end y) k z) h.hyps),
        keep_mapped (moved_disjoint f) (active_disjoint (f o)) (active_disjoint o) (all_map (λ y z. active_moved o y.end k z) h.disjoints),
      )

  pub outermost_moved : (s : Statement) → Ended n s.end → outermost (moved_statement f s) ≡ outermost s
  unfolding outermost
  outermost_moved s h = none_moved s.end h

  declarations_moved : (s : Statement) → PlacedBelow n s → declarations (moved_statement f s) ≡ map (moved_declared f) (declarations s)
  declarations_moved s h =
      rw (outermost_moved s h.end, by_kind_moved f s.kind s.math) (split (outermost s) (λ z. rw z) (λ z. rw z))

  by_global_moved : (g : Option Declared) (o : ℕ) (x : Sense) → by_global (map_option (moved_declared f) g) (f o) x ≡ by_global g o x
  by_global_moved none o x = refl
  by_global_moved (some g) o x = rw (less_moved g.at o)

  by_declared_moved : (g : Option Declared) (o : ℕ) (x : Verdict)
      → by_declared (map_option (moved_declared f) g) (f o) (moved_verdict f x) ≡ moved_verdict f (by_declared g o x)
  by_declared_moved none o x = refl
  by_declared_moved (some g) o x =
      rw (less_moved g.at o)
      (split (ltb g.at o) (λ z. rw z) (λ z. rw z (split g.constant (λ y. rw y) (λ y. rw y))))

  module _ {w : List Statement} (a : All (PlacedBelow n) w) where
    pub global_moved : (m : List ℕ) → global (map (moved_statement f) w) m ≡ map_option (moved_declared f) (global w m)
    unfolding global declared
    global_moved m =
        rw (gather_mapped (moved_statement f) (moved_declared f) declarations declarations (all_map declarations_moved a))
        (find_mapped (moved_declared f) (declares_name m) (declares_name m) (λ d. refl) (gather declarations w))

    pub sense_moved : (v : State) (t : Token)
        → sense (map (moved_statement f) w) (moved_state f v) (moved_token f t) ≡ sense w v t
    unfolding sense
    sense_moved v t =
        rw (global_moved t.bytes, nested_moved f v.nested t.bytes, by_nested_moved f (nested_of v.nested t.bytes))
        (by_global_moved (global w t.bytes) t.at _)

    pub verdict_moved : (k : List Nested) (t : Token)
        → verdict (map (moved_statement f) w) (map (moved_nested f) k) (moved_token f t) ≡ moved_verdict f (verdict w k t)
    unfolding verdict
    verdict_moved k t =
        rw (global_moved t.bytes, nested_moved f k t.bytes, known_moved f (nested_of k t.bytes))
        (by_declared_moved (global w t.bytes) t.at (by_known (nested_of k t.bytes)))

    pub records_moved : (e : ℕ) (k : List Nested) (t : Token)
        → records (map (moved_statement f) w) (moved_end f e) (map (moved_nested f) k) (moved_token f t) ≡ map (moved_nested f) (records w e k t)
    unfolding records
    records_moved e k t = rw (verdict_moved k t) (recorded_moved f (verdict w k t) e t)

    pub all_records_moved : (e : ℕ) (l : List Token) (k : List Nested)
        → nested_records (map (moved_statement f) w) (moved_end f e) (map (moved_token f) l) (map (moved_nested f) k)
        ≡ map (moved_nested f) (nested_records w e l k)
    unfolding nested_records
    all_records_moved e [] k = refl
    all_records_moved e (t ∷ l) k =
        rw (records_moved e k t, ← (map_append (moved_nested f) k (records w e k t)), all_records_moved e l (k ++ records w e k t))
        (sym (map_append (moved_nested f) (records w e k t) (nested_records w e l (k ++ records w e k t))))
