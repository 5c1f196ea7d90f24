-- Recording keeps the slots true to the lists; what other changes keep; nothing recorded at the start.
-- Assumes nothing.
use mathlib.Core.Path.{◌≡◌, refl, sym, ap, ◌∙◌}
use mathlib.Core.Logic.{◌≢◌}
use mathlib.Core.Bool.{Bool, true, false}
use mathlib.Core.List.{List, [], ◌∷◌, ◌++◌}
use mathlib.Core.Option.{Option, none, some}
use Prim.Native.Nat.{ℕ, ◌+◌, ◌-◌, ◌*◌, ◌<◌, ◌≤◌}
use native.Mathlib.Omega.{arith}
use lib.Dec.{eqb, ltb}
use lib.ListN.{length, set, length-set}
use borrow.Author.Tests.{ne_eqb, eqb-true, le-ltb, ltb-false}
use Rattle.paper.specs.Base.{choose, keep, or_else, latest}
use Rattle.paper.specs.Statements.{Statement}
use Rattle.paper.specs.State.{Nested, Formula, Hyp, essential, hyp_end, active_nested, active_hyp, nested_name, nested_of, float_name, float_of}
use Rattle.paper.specs.Checks.{token}
use Rattle.paper.proofs.Tests.{split, eqb_ne, eq_same, ne_same}
use Rattle.paper.proofs.Lists.{keep_append, latest_append}
use Rattle.area.specs.Cells.{statement_cell, symbol_cell, word}
use Rattle.area.proofs.Laws.{word_same, word_other}
use Rattle.reader.specs.Rows.{stmt}
use Rattle.nameck.specs.Atoms.{atoms, name_of}
use Rattle.paper.specs.declared.StatementRow.{StatementRow}
use Rattle.std.specs.Prelude.{Some, None}
use Rattle.std.specs.Prelude as code
use Rattle.slots.specs.Kept.{Room, Kept}
use Rattle.slots.specs.Slots.{nested_slot, nested_at, float_slot, float_hyp, float_at, with_nested, with_float, Nests, Floats, Atomic, Apart}
use Rattle.slots.proofs.Kept.{kept_symbol, kept_then}

left_none : {A : Type 0} (x y : Option A) → or_else x y ≡ none → x ≡ none
left_none (some x) y e = let z : some x ≡ none = e in cc
left_none none y e = refl

right_none : {A : Type 0} (x y : Option A) → or_else x y ≡ none → y ≡ none
right_none (some x) y e = let z : some x ≡ none = e in cc
right_none none y e = e

-- ---- a list of things with ends: what is not active stays so; one more at the end
module _ {A : Type 0} (act : ℕ → A → Bool) (p : A → Bool) where
  pub none_later : ((x : A) (o q : ℕ) → o ≤ q → act o x ≡ false → act q x ≡ false) → (l : List A) (o q : ℕ) → o ≤ q
      → latest p (keep (act o) l) ≡ none → latest p (keep (act q) l) ≡ none
  unfolding latest keep
  none_later f [] o q h e = refl
  none_later f (x ∷ l) o q h e =
      split (act o x)
      (λ a.
      let z : or_else (latest p (keep (act o) l)) (choose (p x) (some x) none) ≡ none = rw a at e in
      let r : latest p (keep (act q) l) ≡ none = none_later f l o q h (left_none (latest p (keep (act o) l)) (choose (p x) (some x) none) z) in
      split (act q x) (λ b. rw (b, r) (right_none (latest p (keep (act o) l)) (choose (p x) (some x) none) z)) (λ b. rw b r))
      (λ a. rw (f x o q h a) (none_later f l o q h (rw a at e)))

  pub latest_new : (l : List A) (x : A) (q : ℕ) → p x ≡ true → latest p (keep (act q) l) ≡ none
      → latest p (keep (act q) (l ++ (x ∷ []))) ≡ choose (act q x) (some x) none
  unfolding latest keep
  latest_new l x q a e =
      ap (latest p) (keep_append (act q) l (x ∷ []))
      ∙ latest_append p (keep (act q) l) (keep (act q) (x ∷ []))
      ∙ split (act q x) (λ b. rw (b, a)) (λ b. rw (b, e))

  pub latest_old : (l : List A) (x : A) (q : ℕ) → p x ≡ false → latest p (keep (act q) (l ++ (x ∷ []))) ≡ latest p (keep (act q) l)
  unfolding latest keep
  latest_old l x q a =
      ap (latest p) (keep_append (act q) l (x ∷ []))
      ∙ latest_append p (keep (act q) l) (keep (act q) (x ∷ []))
      ∙ split (act q x) (λ b. rw (b, a)) (λ b. rw b)

-- ---- nested `$v` tokens
nested_ends : (x : Nested) (o q : ℕ) → o ≤ q → active_nested o x ≡ false → active_nested q x ≡ false
nested_ends x o q h e = le-ltb q x.end (omega (arith, ltb-false o x.end e))

module _ (w : List ℕ) (n a o e : ℕ) (r : Room w n) (h : a < n) where
  pub kept_nested : Kept n 12 12 2 4 w (with_nested w n a o e)
  unfolding with_nested
  kept_nested =
      kept_then (kept_symbol n 2 4 w a 2 o h (omega arith) (omega arith) (omega arith))
      (kept_symbol n 2 4 (set w (symbol_cell n a 2) o) a 3 e h (omega arith) (omega arith) (omega arith))

  nested_same : (p : ℕ) → nested_slot (with_nested w n a o e) n a p ≡ choose (ltb p e) (Some (record { 0 = o })) None
  unfolding nested_slot with_nested
  nested_same p =
      rw (
        word_same (set w (symbol_cell n a 2) o) (symbol_cell n a 3) e (omega (arith, length-set w (symbol_cell n a 2) o, r.room)),
        word_other (set w (symbol_cell n a 2) o) (symbol_cell n a 3) (symbol_cell n a 2) e (λ d. omega (arith, d)),
        word_same w (symbol_cell n a 2) o (omega (arith, r.room)),
      )

  nested_other : (b p : ℕ) → b ≢ a → nested_slot (with_nested w n a o e) n b p ≡ nested_slot w n b p
  unfolding nested_slot with_nested
  nested_other b p d =
      rw (
        word_other (set w (symbol_cell n a 2) o) (symbol_cell n a 3) (symbol_cell n b 3) e (λ q. omega (arith, q, d)),
        word_other w (symbol_cell n a 2) (symbol_cell n b 3) o (λ q. omega (arith, q, d)),
        word_other (set w (symbol_cell n a 2) o) (symbol_cell n a 3) (symbol_cell n b 2) e (λ q. omega (arith, q, d)),
        word_other w (symbol_cell n a 2) (symbol_cell n b 2) o (λ q. omega (arith, q, d)),
      )

-- one recorded where none of its name is active
pub nests_put : {w : List ℕ} {n : ℕ} {l : List Statement} {st : List Nested} {o a : ℕ} {x : List ℕ} (p e : ℕ) → Room w n → length (atoms l) ≤ n
    → Apart l → Atomic l a x → Nests w n l st o → nested_of (keep (active_nested o) st) x ≡ none
    → Nests (with_nested w n a p e) n l (st ++ (record { name = x; at = p; end = e } ∷ [])) o
unfolding nested_of
nests_put {w} {n} {l} {st} {o} {a} {x} p e r f d y k none_here =
    let z : Nested = record { name = x; at = p; end = e } in
    record {
      looks = λ b q g m.
          split (eqb b a)
          (λ s.
          let i : b ≡ a = eqb-true b a s in
          let v : name_of l b ≡ x = ap (name_of l) i ∙ y.name in
          rw (i, y.name)
          (nested_same w n a p e r (omega (arith, y.below)) q
          ∙ sym (ap nested_at
          (latest_new active_nested (nested_name x) st z q (eq_same x x refl)
          (none_later active_nested (nested_name x) nested_ends st o q m none_here))
          ∙ split (ltb q e) (λ t. rw t) (λ t. rw t))))
          (λ s.
          nested_other w n a p e r (omega (arith, y.below)) b q (eqb_ne s)
          ∙ k.looks b q g m
          ∙ sym (ap nested_at
          (latest_old active_nested (nested_name (name_of l b)) st z q
          (ne_same x (name_of l b) (λ i. eqb_ne s (d.apart b a g y.below (sym i ∙ sym y.name)))))));
    }

pub nests_kept : {w v : List ℕ} {n a b c e : ℕ} {l : List Statement} {st : List Nested} {o : ℕ} → length (atoms l) ≤ n → (4 ≤ c) → Kept n a b c e w v
    → Nests w n l st o → Nests v n l st o
unfolding nested_slot
nests_kept {n = n} f g x k =
    record {
      looks = λ r p h m.
          rw (x.left r 3 (omega arith) (omega arith) (omega arith), x.left r 2 (omega arith) (omega arith) (omega arith))
          (k.looks r p h m);
    }

pub nests_later : {w : List ℕ} {n : ℕ} {l : List Statement} {st : List Nested} {o q : ℕ} → o ≤ q → Nests w n l st o → Nests w n l st q
nests_later h k = record { looks = λ a p g m. k.looks a p g (omega arith) }

pub nests_none : (w : List ℕ) (n : ℕ) (l : List Statement) → ((a : ℕ) → a < length (atoms l) → word w (symbol_cell n a 3) ≡ 0) → Nests w n l [] 0
unfolding nested_slot nested_of keep latest
nests_none w n l z = record { looks = λ a p h m. rw (z a h, le-ltb p 0 (omega arith)) }

-- ---- `$f`
-- by cases on its slot, with what it says
pub by_float : {P : Type 0} (s : code.Option StatementRow) → ((r : StatementRow) → s ≡ Some r → P) → (s ≡ None → P) → P
by_float (Some r) f g = f r refl
by_float None f g = g refl

hyp_ends : (x : Hyp) (o q : ℕ) → o ≤ q → active_hyp o x ≡ false → active_hyp q x ≡ false
hyp_ends x o q h e = le-ltb q (hyp_end x) (omega (arith, ltb-false o (hyp_end x) e))

module _ (w : List ℕ) (n a k : ℕ) (r : Room w n) (h : a < n) where
  pub kept_float : Kept n 12 12 4 5 w (with_float w n a k)
  unfolding with_float
  kept_float = kept_symbol n 4 5 w a 4 (k + 1) h (omega arith) (omega arith) (omega arith)

  float_same : (e p : ℕ) → 3 * k + 3 ≤ n → word w (statement_cell k 7) ≡ e → float_slot (with_float w n a k) n a p ≡ choose (ltb p e) (Some (record { 0 = k })) None
  unfolding float_slot with_float
  float_same e p g d =
      let i : (k + 1) - 1 ≡ k = omega arith in
      rw (
        word_same w (symbol_cell n a 4) (k + 1) (omega (arith, r.room)),
        ne_eqb (k + 1) 0 (omega arith),
        i,
        word_other w (symbol_cell n a 4) (statement_cell k 7) (k + 1) (λ q. omega (arith, q)),
        d,
      )

  word_of_other : (b : ℕ) → b ≢ a → word (with_float w n a k) (symbol_cell n b 4) ≡ word w (symbol_cell n b 4)
  unfolding with_float
  word_of_other b d = word_other w (symbol_cell n a 4) (symbol_cell n b 4) (k + 1) (λ q. omega (arith, q, d))

  word_of_same : word (with_float w n a k) (symbol_cell n a 4) ≡ k + 1
  unfolding with_float
  word_of_same = word_same w (symbol_cell n a 4) (k + 1) (omega (arith, r.room))

  float_other : (b p : ℕ) → b ≢ a → 3 * word w (symbol_cell n b 4) ≤ n → float_slot (with_float w n a k) n b p ≡ float_slot w n b p
  unfolding float_slot
  float_other b p d g =
      split (eqb (word w (symbol_cell n b 4)) 0)
      (λ z. rw (word_of_other b d, z))
      (λ z.
      let m : word w (symbol_cell n b 4) ≢ 0 = eqb_ne z in
      rw (word_of_other b d, z, kept_float.low (word w (symbol_cell n b 4) - 1) 7 (omega (arith, m)) (omega arith) (omega arith)))

float_ends : (l : List Statement) (k q : ℕ) → float_at l (choose (ltb q (stmt l k).end) (Some (record { 0 = k })) None) ≡ choose (active_hyp q (float_hyp l k)) (some (float_hyp l k)) none
unfolding float_hyp
float_ends l k q = split (ltb q (stmt l k).end) (λ t. rw t) (λ t. rw t)

float_is : (l : List Statement) (k : ℕ) (x : List ℕ) → (token (stmt l k) 1).bytes ≡ x → float_name x (float_hyp l k) ≡ true
unfolding float_hyp
float_is l k x e = eq_same _ _ e

float_not : (l : List Statement) (k : ℕ) (x : List ℕ) → ((token (stmt l k) 1).bytes ≡ x → ⊥) → float_name x (float_hyp l k) ≡ false
unfolding float_hyp
float_not l k x e = ne_same _ _ e

-- the k-th statement recorded where its variable has no active `$f`
pub floats_put : {w : List ℕ} {n : ℕ} {l : List Statement} {h : List Hyp} {k o a : ℕ} → Room w n → length (atoms l) ≤ n → 3 * k + 3 ≤ n → word w (statement_cell k 7) ≡ (stmt l k).end
    → Apart l → Atomic l a (token (stmt l k) 1).bytes → Floats w n l h k o → float_of (keep (active_hyp o) h) (token (stmt l k) 1).bytes ≡ none
    → Floats (with_float w n a k) n l (h ++ (float_hyp l k ∷ [])) (k + 1) o
unfolding float_of
floats_put {w} {n} {l} {h} {k} {o} {a} r f g end d y s none_here =
    let x = (token (stmt l k) 1).bytes in
    record {
      looks = λ b q i m.
          split (eqb b a)
          (λ z.
          let j : b ≡ a = eqb-true b a z in
          rw (j, y.name)
          (ap (float_at l) (float_same w n a k r (omega (arith, y.below)) (stmt l k).end q g end)
          ∙ float_ends l k q
          ∙ sym (latest_new active_hyp (float_name x) h (float_hyp l k) q (float_is l k x refl)
          (none_later active_hyp (float_name x) hyp_ends h o q m none_here))))
          (λ z.
          ap (float_at l) (float_other w n a k r (omega (arith, y.below)) b q (eqb_ne z) (omega (arith, s.rows b i)))
          ∙ s.looks b q i m
          ∙ sym (latest_old active_hyp (float_name (name_of l b)) h (float_hyp l k) q
          (float_not l k (name_of l b) (λ j. eqb_ne z (d.apart b a i y.below (sym j ∙ sym y.name))))));
      rows = λ b i.
          split (eqb b a)
          (λ z. let j : b ≡ a = eqb-true b a z in rw j (omega (arith, word_of_same w n a k r (omega (arith, y.below)))))
          (λ z. omega (arith, word_of_other w n a k r (omega (arith, y.below)) b (eqb_ne z), s.rows b i));
    }

-- a `$e` is no `$f`
pub floats_essential : {w : List ℕ} {n : ℕ} {l : List Statement} {h : List Hyp} {k o : ℕ} (p e : ℕ) (f : Formula) → Floats w n l h k o → Floats w n l (h ++ (essential p e f ∷ [])) k o
unfolding float_of
floats_essential {l = l} {h} p e f s =
    record {
      looks = λ b q i m. s.looks b q i m ∙ sym (latest_old active_hyp (float_name (name_of l b)) h (essential p e f) q refl);
      rows = s.rows;
    }

pub floats_kept : {w v : List ℕ} {n a b c e : ℕ} {l : List Statement} {h : List Hyp} {k o : ℕ} → length (atoms l) ≤ n → 3 * k ≤ n → 8 ≤ a → ((r : ℕ) → r < n → word v (symbol_cell n r 4) ≡ word w (symbol_cell n r 4)) → Kept n a b c e w v
    → Floats w n l h k o → Floats v n l h k o
unfolding float_slot
floats_kept {w} {v} {n} {l = l} f g u same x s =
    record {
      looks = λ b q i m.
          let j = same b (omega arith) in
          split (eqb (word w (symbol_cell n b 4)) 0)
          (λ z. rw (j, z) (rw z at (s.looks b q i m)))
          (λ z.
          let y : word w (symbol_cell n b 4) ≢ 0 = eqb_ne z in
          rw (j, x.low (word w (symbol_cell n b 4) - 1) 7 (omega (arith, y, s.rows b i)) (omega arith) (omega arith)) (s.looks b q i m));
      rows = λ b i. rw (same b (omega arith)) (s.rows b i);
    }

pub floats_later : {w : List ℕ} {n : ℕ} {l : List Statement} {h : List Hyp} {k j o q : ℕ} → o ≤ q → k ≤ j → Floats w n l h k o → Floats w n l h j q
floats_later g m s =
    record { looks = λ a p i y. s.looks a p i (omega arith); rows = λ a i. omega (arith, s.rows a i) }

pub floats_none : (w : List ℕ) (n : ℕ) (l : List Statement) → ((a : ℕ) → a < length (atoms l) → word w (symbol_cell n a 4) ≡ 0) → Floats w n l [] 0 0
unfolding float_slot float_of keep latest
floats_none w n l z = record { looks = λ a p h m. rw (z a h); rows = λ a h. omega (arith, z a h) }
