-- Dropping what is closed is the filter, and putting one on top is recording.
-- Assumes nothing.
use mathlib.Core.Path.{◌≡◌, refl, sym, ap, ◌∙◌}
use mathlib.Core.Logic.{⊎_elim}
use mathlib.Core.List.{List, [], ◌∷◌, ◌++◌, append-nil}
use Prim.Native.Nat.{ℕ, zero, suc, ◌+◌, ◌-◌, ◌<◌, ◌≤◌}
use native.Mathlib.Nat.{le_refl, eq-or-lt_of_le, le_of_suc-le-suc, not-suc-le-zero}
use native.Mathlib.Omega.{arith}
use lib.Dec.{ltb}
use lib.ListN.{length, set}
use borrow.Author.Tests.{lt-ltb, le-ltb, ltb-true, ltb-false}
use Rattle.paper.specs.Base.{choose, keep}
use Rattle.paper.specs.Statements.{Statement}
use Rattle.paper.proofs.Tests.{split}
use Rattle.paper.proofs.Lists.{keep_append}
use Rattle.area.specs.Cells.{statement_cell, word}
use Rattle.area.proofs.Laws.{word_same, word_other}
use Rattle.reader.specs.Rows.{stmt}
use Rattle.facts.specs.Facts.{Facts}
use Rattle.sight.specs.Static.{stack}
use Rattle.slots.specs.Stack.{end_at, pop_of, row_active, Stack}

-- ---- one entry less, for the loop
pub pop_stop : (w : List ℕ) (c d o : ℕ) → 0 < d → o < end_at w c (d - 1) → pop_of w c d o ≡ d
unfolding pop_of
pop_stop w c zero o h e = absurd (not-suc-le-zero h)
pop_stop w c (suc d) o h e =
    let m : suc d - 1 ≡ d = omega arith in
    rw (lt-ltb o (end_at w c d) (rw m at e))

pub pop_more : (w : List ℕ) (c d o : ℕ) → 0 < d → end_at w c (d - 1) ≤ o → pop_of w c (d - 1) o ≡ pop_of w c d o
unfolding pop_of
pop_more w c zero o h e = absurd (not-suc-le-zero h)
pop_more w c (suc d) o h e =
    let m : suc d - 1 ≡ d = omega arith in
    rw (m, le-ltb o (end_at w c d) (rw m at e))

pub pop_zero : (w : List ℕ) (c d o : ℕ) → d ≤ 0 → pop_of w c d o ≡ 0
unfolding pop_of
pop_zero w c zero o h = refl
pop_zero w c (suc d) o h = absurd (not-suc-le-zero h)

pub end_is : (w : List ℕ) (c i r e : ℕ) → r ≡ word w (statement_cell i c) → e ≡ word w (statement_cell r 7) → e ≡ end_at w c i
unfolding end_at
end_is w c i r e p q = q ∙ rw p

pub pop_le : (w : List ℕ) (c d o : ℕ) → pop_of w c d o ≤ d
unfolding pop_of
pop_le w c zero o = omega arith
pop_le w c (suc d) o =
    split (ltb o (end_at w c d)) (λ e. rw e (omega arith)) (λ e. rw e (omega (arith, pop_le w c d o)))

-- ---- what is active at p of what is active at o
keep_later : (l : List Statement) (rs : List ℕ) (o p : ℕ) → o ≤ p → keep (row_active l p) (keep (row_active l o) rs) ≡ keep (row_active l p) rs
unfolding keep
keep_later l [] o p h = refl
keep_later l (r ∷ rs) o p h =
    split (ltb o (stmt l r).end)
    (λ e. rw (e, keep_later l rs o p h))
    (λ e.
    let m : (stmt l r).end ≤ o = ltb-false _ _ e in
    rw (e, le-ltb p (stmt l r).end (omega arith)) (keep_later l rs o p h))

keep_one : (l : List Statement) (rs : List ℕ) (r o : ℕ) → keep (row_active l o) (rs ++ (r ∷ [])) ≡ keep (row_active l o) rs ++ choose (ltb o (stmt l r).end) (r ∷ []) []
unfolding keep
keep_one l rs r o = keep_append (row_active l o) rs (r ∷ [])

-- ---- a stack all of whose entries are active is its own filter
module _ (l : List Statement) (w : List ℕ) (c : ℕ) where
  all_live : (d o : ℕ) → ((i : ℕ) → i < d → o < (stmt l (word w (statement_cell i c))).end) → keep (row_active l o) (stack w c d) ≡ stack w c d
  unfolding stack keep
  all_live zero o h = refl
  all_live (suc d) o h =
      let r = word w (statement_cell d c) in
      keep_one l (stack w c d) r o
      ∙ rw (all_live d o (λ i m. h i (omega arith)), lt-ltb o (stmt l r).end (h d (omega arith)))

  module _ (k : ℕ) (ends : (r : ℕ) → r < k → word w (statement_cell r 7) ≡ (stmt l r).end) where
    end_of : (i : ℕ) → word w (statement_cell i c) < k → end_at w c i ≡ (stmt l (word w (statement_cell i c))).end
    unfolding end_at
    end_of i h = ends (word w (statement_cell i c)) h

    -- dropping from the top is filtering
    popped : (d o : ℕ) → ((i : ℕ) → i < d → word w (statement_cell i c) < k)
        → ((i j : ℕ) → i ≤ j → j < d → (stmt l (word w (statement_cell j c))).end ≤ (stmt l (word w (statement_cell i c))).end)
        → stack w c (pop_of w c d o) ≡ keep (row_active l o) (stack w c d)
    unfolding pop_of stack keep
    popped zero o h f = refl
    popped (suc d) o h f =
        let r = word w (statement_cell d c) in
        let en : end_at w c d ≡ (stmt l r).end = end_of d (h d (omega arith)) in
        split (ltb o (end_at w c d))
        (λ e.
        let m : o < end_at w c d = ltb-true _ _ e in
        rw e (sym (all_live (suc d) o (λ i g. omega (arith, en, f i d (omega arith) (omega arith))))))
        (λ e.
        let m : end_at w c d ≤ o = ltb-false _ _ e in
        rw e
        (popped d o (λ i m. h i (omega arith)) (λ i j a b. f i j a (omega arith))
        ∙ sym (keep_one l (stack w c d) r o
        ∙ rw (le-ltb o (stmt l r).end (omega (arith, en))) (append-nil (keep (row_active l o) (stack w c d))))))

    pop_live : (d o : ℕ) → ((i : ℕ) → i < d → word w (statement_cell i c) < k)
        → ((i j : ℕ) → i ≤ j → j < d → (stmt l (word w (statement_cell j c))).end ≤ (stmt l (word w (statement_cell i c))).end)
        → (i : ℕ) → i < pop_of w c d o → o < (stmt l (word w (statement_cell i c))).end
    unfolding pop_of
    pop_live zero o h f i m = absurd (not-suc-le-zero m)
    pop_live (suc d) o h f i m =
        split (ltb o (end_at w c d))
        (λ e.
        let q : o < end_at w c d = ltb-true _ _ e in
        let g : i < suc d = rw e at m in
        omega (arith, end_of d (h d (omega arith)), f i d (omega arith) (omega arith)))
        (λ e. pop_live d o (λ i m. h i (omega arith)) (λ i j a b. f i j a (omega arith)) i (rw e at m))

pub stack_pop : {w : List ℕ} {c : ℕ} {l : List Statement} {rs : List ℕ} {d k o : ℕ} (p : ℕ) → o ≤ p → ((r : ℕ) → r < k → word w (statement_cell r 7) ≡ (stmt l r).end)
    → Stack w c l rs d k o → Stack w c l rs (pop_of w c d p) k p
stack_pop {w} {c} {l} {rs} {d} {k} {o} p h ends s =
    let m = pop_le w c d p in
    record {
      holds = popped l w c k ends d p s.rows s.falls ∙ rw s.holds (keep_later l rs o p h);
      rows = λ i g. s.rows i (omega arith);
      alive = pop_live l w c k ends d p s.rows s.falls;
      falls = λ i j a b. s.falls i j a (omega arith);
    }

-- ---- a row put on top
module _ (w : List ℕ) (c e k : ℕ) where
  stack_set : (d : ℕ) → d ≤ e → stack (set w (statement_cell e c) k) c d ≡ stack w c d
  unfolding stack
  stack_set zero h = refl
  stack_set (suc d) h =
      rw (stack_set d (omega arith), word_other w (statement_cell e c) (statement_cell d c) k (λ q. omega (arith, q)))

  -- what holds of the new entry and of those below holds of all
  on_top : (P : ℕ → Type 0) → statement_cell e c < length w → P k → ((i : ℕ) → i < e → P (word w (statement_cell i c)))
      → (i : ℕ) → i < suc e → P (word (set w (statement_cell e c) k) (statement_cell i c))
  on_top P room a b i m =
      ⊎_elim
      (λ q.
      let z : word (set w (statement_cell e c) k) (statement_cell i c) ≡ k =
      ap (λ (x : ℕ). word (set w (statement_cell e c) k) (statement_cell x c)) q ∙ word_same w (statement_cell e c) k room in
      rw z a)
      (λ q. rw (word_other w (statement_cell e c) (statement_cell i c) k (λ z. omega (arith, z))) (b i q))
      (eq-or-lt_of_le (le_of_suc-le-suc m))

pub stack_push : {w : List ℕ} {c : ℕ} {l : List Statement} {rs : List ℕ} {d k : ℕ} {t : List ℕ} → Facts t l → k < length l → statement_cell d c < length w
    → Stack w c l rs d k (stmt l k).at → Stack (set w (statement_cell d c) k) c l (rs ++ (k ∷ [])) (d + 1) (k + 1) (stmt l k).at
unfolding stack
stack_push {w} {c} {l} {rs} {d} {k} fs h room s =
    let v = set w (statement_cell d c) k in
    let lives = (fs.shaped k h).lives in
    let top : word v (statement_cell d c) ≡ k = word_same w (statement_cell d c) k room in
    let low : (i : ℕ) → i < d → word v (statement_cell i c) ≡ word w (statement_cell i c) =
    λ i m. word_other w (statement_cell d c) (statement_cell i c) k (λ z. omega (arith, z)) in
    let under : (i : ℕ) → i < d → (stmt l k).end ≤ (stmt l (word w (statement_cell i c))).end =
    λ i m. fs.inner (word w (statement_cell i c)) k (s.rows i m) h (s.alive i m) in
    let p : d + 1 ≡ suc d = omega arith in
    let q : k + 1 ≡ suc k = omega arith in
    rw (p, q)
    (record {
      holds =
          rw (stack_set w c d k d (le_refl d), top, s.holds)
          (sym (keep_one l rs k (stmt l k).at ∙ rw (lt-ltb (stmt l k).at (stmt l k).end lives)));
      rows = on_top w c d k (λ r. r < suc k) room (omega arith) (λ i m. omega (arith, s.rows i m));
      alive = on_top w c d k (λ r. (stmt l k).at < (stmt l r).end) room lives s.alive;
      falls = λ i j a b.
          ⊎_elim
          (λ e.
          let g : word v (statement_cell j c) ≡ k = ap (λ (x : ℕ). word v (statement_cell x c)) e ∙ top in
          rw g (on_top w c d k (λ r. (stmt l k).end ≤ (stmt l r).end) room (le_refl _) under i (omega arith)))
          (λ e. rw (low j e, low i (omega arith)) (s.falls i j a e))
          (eq-or-lt_of_le (le_of_suc-le-suc b));
    })

-- ---- words that are no entry; a later statement; no entry
stack_same : (w v : List ℕ) (c d : ℕ) → ((i : ℕ) → i < d → word v (statement_cell i c) ≡ word w (statement_cell i c)) → stack v c d ≡ stack w c d
unfolding stack
stack_same w v c zero e = refl
stack_same w v c (suc d) e = rw (stack_same w v c d (λ i m. e i (omega arith)), e d (omega arith))

pub stack_kept : {w v : List ℕ} {c : ℕ} {l : List Statement} {rs : List ℕ} {d k o : ℕ} → ((i : ℕ) → i < d → word v (statement_cell i c) ≡ word w (statement_cell i c))
    → Stack w c l rs d k o → Stack v c l rs d k o
stack_kept {w} {v} {c} {d = d} e s =
    record {
      holds = stack_same w v c d e ∙ s.holds;
      rows = λ i m. rw (e i m) (s.rows i m);
      alive = λ i m. rw (e i m) (s.alive i m);
      falls = λ i j a b. rw (e i (omega arith), e j b) (s.falls i j a b);
    }

pub stack_next : {w : List ℕ} {c : ℕ} {l : List Statement} {rs : List ℕ} {d k o : ℕ} → Stack w c l rs d k o → Stack w c l rs d (k + 1) o
stack_next s =
    record {
      holds = s.holds;
      rows = λ i m. omega (arith, s.rows i m);
      alive = s.alive;
      falls = s.falls;
    }

pub stack_none : (w : List ℕ) (c : ℕ) (l : List Statement) → Stack w c l [] 0 0 0
unfolding stack keep
stack_none w c l =
    record {
      holds = refl;
      rows = λ i m. absurd (not-suc-le-zero m);
      alive = λ i m. absurd (not-suc-le-zero m);
      falls = λ i j a m. absurd (not-suc-le-zero m);
    }
