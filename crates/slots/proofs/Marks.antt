-- Marks begin empty, each token is added to them, and they are taken away again.
-- Assumes nothing.
use mathlib.Core.Path.{◌≡◌, refl, sym, ap, ◌∙◌}
use mathlib.Core.Logic.{◌≢◌}
use mathlib.Core.Bool.{false}
use mathlib.Core.List.{List, [], ◌∷◌, ◌++◌}
use Prim.Native.Nat.{ℕ, suc, ◌+◌, ◌-◌, ◌<◌, ◌≤◌}
use native.Mathlib.Nat.{add-zero, add-suc, suc-add}
use native.Mathlib.Omega.{arith}
use lib.Dec.{eqb}
use lib.ListN.{length, set, get_or}
use borrow.Author.Tests.{ne_eqb, eqb-true, lt-ltb, le-ltb}
use Rattle.paper.specs.Base.{choose, sameb}
use Rattle.paper.specs.Tokens.{Token}
use Rattle.paper.specs.Statements.{Statement}
use Rattle.paper.specs.State.{variable}
use Rattle.paper.specs.Checks.{first_index, disjoint_diags, no_token}
use Rattle.paper.proofs.Tests.{split, eqb_ne, same_refl, eq_same, ne_same}
use Rattle.area.specs.Cells.{symbol_cell, math_cell, word}
use Rattle.area.proofs.Laws.{word_same, word_other}
use Rattle.nameck.specs.Atoms.{atoms, name_of}
use Rattle.paper.specs.declared.TokenIndex.{TokenIndex}
use Rattle.std.specs.Prelude.{Option, Some, None}
use Rattle.slots.specs.Kept.{Room, Kept}
use Rattle.slots.specs.Slots.{Atomic, Apart}
use Rattle.slots.specs.Marks.{first_in, mark_slot, marked_by, repeat_diags, Marks, Atoms, Left, Forgot}
use Rattle.slots.proofs.Kept.{kept_none, kept_then, kept_symbol}

-- by cases on a mark, with what it says
by_mark : {P : Type 0} (s : Option TokenIndex) → ((p : TokenIndex) → s ≡ Some p → P) → (s ≡ None → P) → P
by_mark (Some p) f g = f p refl
by_mark None f g = g refl

-- ---- one token more at the end
abbrev or_slot : Option TokenIndex → Option TokenIndex → Option TokenIndex
or_slot (Some j) f = Some j
or_slot None f = f

or_nothing : (f : Option TokenIndex) → or_slot f None ≡ f
or_nothing (Some j) = refl
or_nothing None = refl

first_snoc : (d : List Token) (t : Token) (x : List ℕ) (k : ℕ) → first_in (d ++ (t ∷ [])) x k ≡ or_slot (first_in d x k) (choose (sameb t.bytes x) (Some (record { 0 = k + length d })) None)
unfolding first_in
first_snoc [] t x k = rw add-zero
first_snoc (y ∷ d) t x k =
    split (sameb y.bytes x) (λ q. rw q) (λ q. rw (q, add-suc, ← suc-add) (first_snoc d t x (suc k)))

module _ (d : List Token) (t : Token) (x : List ℕ) where
  first_kept : (j : TokenIndex) → first_in d x 0 ≡ Some j → first_in (d ++ (t ∷ [])) x 0 ≡ first_in d x 0
  first_kept j e = first_snoc d t x 0 ∙ rw e

  first_new : t.bytes ≡ x → first_in d x 0 ≡ None → first_in (d ++ (t ∷ [])) x 0 ≡ Some (record { 0 = length d })
  first_new q e =
      let z : 0 + length d ≡ length d = omega arith in
      first_snoc d t x 0 ∙ rw (e, eq_same _ _ q, z)

  first_other : (t.bytes ≡ x → ⊥) → first_in (d ++ (t ∷ [])) x 0 ≡ first_in d x 0
  first_other q = first_snoc d t x 0 ∙ rw (ne_same _ _ q) (or_nothing (first_in d x 0))

-- ---- a mark that was set, and the others
module _ (w : List ℕ) (n a i : ℕ) (r : Room w n) (h : a < n) where
  mark_same : mark_slot (set w (symbol_cell n a 6) (i + 1)) n a ≡ Some (record { 0 = i })
  unfolding mark_slot
  mark_same =
      let e : i + 1 - 1 ≡ i = omega arith in
      rw (word_same w (symbol_cell n a 6) (i + 1) (omega (arith, r.room)), ne_eqb (i + 1) 0 (omega arith), e)

  mark_other : (b : ℕ) → b ≢ a → mark_slot (set w (symbol_cell n a 6) (i + 1)) n b ≡ mark_slot w n b
  unfolding mark_slot
  mark_other b d = rw (word_other w (symbol_cell n a 6) (symbol_cell n b 6) (i + 1) (λ q. omega (arith, q, d)))

  pub kept_mark : (s : Option TokenIndex) → Kept n 12 12 6 7 w (marked_by s w n a i)
  kept_mark (Some j) = kept_none n 12 12 6 7 w
  kept_mark None = kept_symbol n 6 7 w a 6 (i + 1) h (omega arith) (omega arith) (omega arith)

-- one token more
pub marks_see : {w : List ℕ} {n : ℕ} {l : List Statement} {d : List Token} {a : ℕ} (t : Token) → Room w n → length (atoms l) ≤ n → Apart l → Atomic l a t.bytes
    → Marks w n l d → Marks (marked_by (mark_slot w n a) w n a (length d)) n l (d ++ (t ∷ []))
marks_see {w} {n} {l} {d} {a} t r f u y k =
    let here : mark_slot w n a ≡ first_in d t.bytes 0 = k.sees a y.below ∙ rw y.name in
    let other : (b : ℕ) → b < length (atoms l) → eqb b a ≡ false → first_in (d ++ (t ∷ [])) (name_of l b) 0 ≡ first_in d (name_of l b) 0 =
    λ b g q. first_other d t (name_of l b) (λ e. eqb_ne q (u.apart b a g y.below (sym e ∙ sym y.name))) in
    by_mark (mark_slot w n a)
    (λ j e. rw e
    (record {
      sees = λ b g.
          split (eqb b a)
          (λ q.
          let s : b ≡ a = eqb-true b a q in
          rw (s, y.name) (here ∙ sym (first_kept d t t.bytes j (sym here ∙ e))))
          (λ q. k.sees b g ∙ sym (other b g q));
    }))
    (λ e. rw e
    (record {
      sees = λ b g.
          split (eqb b a)
          (λ q.
          let s : b ≡ a = eqb-true b a q in
          rw (s, y.name)
          (mark_same w n a (length d) r (omega (arith, y.below))
          ∙ sym (first_new d t t.bytes refl (sym here ∙ e))))
          (λ q.
          mark_other w n a (length d) r (omega (arith, y.below)) b (eqb_ne q)
          ∙ k.sees b g
          ∙ sym (other b g q));
    }))

-- ---- no token
pub marks_none : {w : List ℕ} {n : ℕ} {l : List Statement} → ((a : ℕ) → a < length (atoms l) → word w (symbol_cell n a 6) ≡ 0) → Marks w n l []
unfolding mark_slot first_in
marks_none z = record { sees = λ a h. rw (z a h) }

-- an atom that no token has is not marked
first_none : (d : List Token) (x : List ℕ) (k : ℕ) → ((j : ℕ) → j < length d → (get_or d j no_token).bytes ≡ x → ⊥) → first_in d x k ≡ None
unfolding first_in
first_none [] x k f = refl
first_none (t ∷ d) x k f =
    rw (ne_same t.bytes x (f 0 (omega arith))) (first_none d x (suc k) (λ j h e. f (suc j) (omega (arith, h)) e))

mark_zero : (w : List ℕ) (n a : ℕ) → mark_slot w n a ≡ None → word w (symbol_cell n a 6) ≡ 0
unfolding mark_slot
mark_zero w n a e =
    split (eqb (word w (symbol_cell n a 6)) 0) (λ q. eqb-true _ _ q)
    (λ q. let z : ◌≡◌ {A = Option TokenIndex} (Some (record { 0 = word w (symbol_cell n a 6) - 1 })) None = rw q at e in cc)

pub marks_left : {w : List ℕ} {n : ℕ} {l : List Statement} {d : List Token} (f : ℕ) → Marks w n l d
    → ((j : ℕ) → j < length d → Atomic l (word w (math_cell n (f + j))) (get_or d j no_token).bytes) → Apart l → Left w w n f (length d) (length (atoms l)) 0
marks_left {w} {n} {l} {d} f k y u a h g =
    mark_zero w n a
    (k.sees a h
    ∙ first_none d (name_of l a) 0
    (λ j m e. g j (omega arith) m (u.apart (word w (math_cell n (f + j))) a (y j m).below h ((y j m).name ∙ e))))

pub marks_kept : {w v : List ℕ} {n : ℕ} {l : List Statement} {d : List Token} → length (atoms l) ≤ n → ((r : ℕ) → r < n → word v (symbol_cell n r 6) ≡ word w (symbol_cell n r 6))
    → Marks w n l d → Marks v n l d
unfolding mark_slot
marks_kept f same k = record { sees = λ a h. rw (same a (omega arith)) (k.sees a h) }

-- ---- a repeat: the mark is the definition's first index among all tokens, of which d are those before the i-th
first_index_old : (d m : List Token) (x : List ℕ) (k j : ℕ) → first_in d x k ≡ Some (record { 0 = j }) → (first_index (d ++ m) x + k ≡ j) × (j < k + length d)
unfolding first_in first_index
first_index_old [] m x k j e = cc
first_index_old (t ∷ d) m x k j e =
    split (sameb t.bytes x)
    (λ q.
    let z : ◌≡◌ {A = Option TokenIndex} (Some (record { 0 = k })) (Some (record { 0 = j })) = rw q at e in
    let y : ◌≡◌ {A = TokenIndex} (record { 0 = k }) (record { 0 = j }) = cc in
    let i : k ≡ j = ap (λ (b : TokenIndex). b.0) y in
    rw q (omega arith, omega arith))
    (λ q. let r = first_index_old d m x (suc k) j (rw q at e) in rw q (omega (arith, r.0), omega (arith, r.1)))

first_index_new : (d m : List Token) (t : Token) (k : ℕ) → first_in d t.bytes k ≡ None → first_index (d ++ (t ∷ m)) t.bytes ≡ length d
unfolding first_in first_index
first_index_new [] m t k e = rw (same_refl t.bytes)
first_index_new (y ∷ d) m t k e =
    split (sameb y.bytes t.bytes)
    (λ q. let z : ◌≡◌ {A = Option TokenIndex} (Some (record { 0 = k })) None = rw q at e in cc)
    (λ q. rw q (ap suc (first_index_new d m t (suc k) (rw q at e))))

pub repeat_is : (d m : List Token) (t : Token) (s i : ℕ) → length d ≡ i
    → repeat_diags (first_in d t.bytes 0) s i ≡ disjoint_diags variable (first_index (d ++ (t ∷ m)) t.bytes) s i
repeat_is d m t s i e =
    by_mark (first_in d t.bytes 0)
    (λ j f.
    let r = first_index_old d (t ∷ m) t.bytes 0 j.0 f in
    let z : first_index (d ++ (t ∷ m)) t.bytes ≡ j.0 = omega (arith, r.0) in
    rw (f, z, lt-ltb j.0 i (omega (arith, r.1))))
    (λ f. let z : first_index (d ++ (t ∷ m)) t.bytes ≡ i = first_index_new d m t 0 f ∙ e in rw (f, z, le-ltb i i (omega arith)))

-- ---- the marks taken away one after the other
pub record InvForget (w v : List ℕ) (n f c i : ℕ) : Type 0 where
  pub kept : Kept n 12 12 6 7 w v
  pub upto : i ≤ c
  pub clean : (m : ℕ) → m ≤ n → Left w w n f c m 0 → Left w v n f c m i

pub forget_start : (w : List ℕ) (n f c : ℕ) → InvForget w w n f c 0
forget_start w n f c = record { kept = kept_none n 12 12 6 7 w; upto = omega arith; clean = λ m h g. g }

forget_one : {w v u : List ℕ} {n f c i a : ℕ} → Room w n → i < c → a < n → a ≡ word v (math_cell n (f + i))
    → u ≡ set v (symbol_cell n a 6) 0 → InvForget w v n f c i → InvForget w u n f c (i + 1)
forget_one {w} {v} {u} {n} {f} {c} {i} {a} r l h e q x =
    record {
      kept = rw q (kept_then x.kept (kept_symbol n 6 7 v a 6 0 h (omega arith) (omega arith) (omega arith)));
      upto = omega arith;
      clean = λ m g s b k z.
          rw q
          (split (eqb b a)
          (λ p.
          let d : b ≡ a = eqb-true b a p in
          rw d (word_same v (symbol_cell n a 6) 0 (omega (arith, r.room, x.kept.len))))
          (λ p.
          word_other v (symbol_cell n a 6) (symbol_cell n b 6) 0 (λ d. eqb_ne {x = b} {y = a} p (omega (arith, d)))
          ∙ x.clean m g s b k
          (λ j lo hi d.
          split (eqb j i)
          (λ t. let o : j ≡ i = eqb-true j i t in eqb_ne p (sym d ∙ ap (λ y. word w (math_cell n (f + y))) o ∙ sym (x.kept.maths (f + i)) ∙ sym e))
          (λ t. let o : j ≢ i = eqb_ne t in z j (omega (arith, o)) hi d))));
    }

-- by the row; what it holds is an atom below n
pub atom_of_row : {w v : List ℕ} {n f c row a : ℕ} → Atoms w n f c → Kept n 12 12 6 7 w v → f ≤ row → row < f + c
    → a ≡ word v (math_cell n row) → a < n
atom_of_row {w} {v} {n} {f} {c} {row} {a} x k h g e =
    let o : f + (row - f) ≡ row = omega arith in
    let y : word w (math_cell n row) < n = rw o at (x.atom (row - f) (omega arith)) in
    omega (arith, k.maths row)

pub forget_step : {w v u : List ℕ} {n f c i row j a : ℕ} → Room w n → i < c → row ≡ f + i → j ≡ i + 1 → a < n
    → a ≡ word v (math_cell n row) → u ≡ set v (symbol_cell n a 6) 0 → InvForget w v n f c i → InvForget w u n f c j
forget_step {w} {v} {u} {n} {f} {c} {i} {row} {j} {a} r l o p h e q x =
    rw p (forget_one r l h (rw o at e) q x)

pub forget_end : {w v : List ℕ} {n f c i : ℕ} → c ≤ i → InvForget w v n f c i → Forgot w v n f c
forget_end h x =
    record {
      kept = x.kept;
      clean = λ m g s a k. x.clean m g s a k (λ j lo hi e. omega arith);
    }

-- ---- what the code reads
pub mark_nothing : (w : List ℕ) (n a : ℕ) → word w (symbol_cell n a 6) ≡ 0 → mark_slot w n a ≡ None
unfolding mark_slot
mark_nothing w n a e = rw e

pub mark_at : (w : List ℕ) (n a : ℕ) {k : ℕ} → k ≡ word w (symbol_cell n a 6) → k ≢ 0 → mark_slot w n a ≡ Some (record { 0 = k - 1 })
unfolding mark_slot
mark_at w n a {k} e d = rw (← e, ne_eqb k 0 d)
