-- What is active at an offset, by rows; and what the rows are: rising, accepted, of their kind.
-- Assumes nothing of the statements.
use mathlib.Core.Path.{◌≡◌, refl, sym, ap, ◌∙◌}
use mathlib.Core.Bool.{Bool, true, false}
use mathlib.Core.List.{List, [], ◌∷◌, ◌++◌, map}
use Prim.Native.Nat.{ℕ, zero, suc, ◌+◌, ◌<◌}
use native.Mathlib.Nat.{le_refl}
use native.Mathlib.Numerals.{add-one}
use native.Mathlib.Omega.{arith}
use lib.Dec.{ltb}
use Rattle.paper.specs.Base.{choose, and, keep, gather}
use Rattle.paper.specs.Statements.{Kind, $c, $v, $d, $f, $e, $a, $p, Statement}
use Rattle.paper.specs.State.{hyp_end, view, active_hyp, active_disjoint}
use Rattle.paper.specs.Variables.{formula_in}
use Rattle.paper.proofs.Tests.{split, clash}
use Rattle.paper.proofs.Lists.{keep_append}
use Rattle.paper.proofs.Alls.{All, all_none, all_more, all_map, all_append, Two, two_none, two_more, two_append}
use Rattle.reader.specs.Rows.{stmt}
use Rattle.facts.specs.States.{state_at}
use Rattle.sight.specs.Static.{static, hyp_by, row_hyp, row_disjoint}
use Rattle.history.specs.Accepted.{accepted, is_hyp, is_essential, is_disjoint, rows_of}
use Rattle.history.proofs.Rows.{row_float, row_essential, hyps_by_rows, disjoints_by_rows}

-- ---- filters
keep_map :
    {A B : Type 0} (p : B → Bool) (f : A → B) (q : A → Bool)
    → ((x : A) → p (f x) ≡ q x) → (l : List A) → keep p (map f l) ≡ map f (keep q l)
unfolding keep
keep_map p f q h [] = refl
keep_map p f q h (x ∷ l) =
    split (q x) (λ e. rw (h x, e, keep_map p f q h l)) (λ e. rw (h x, e) (keep_map p f q h l))

-- ---- what is active
hyp_end_row : (l : List Statement) (r : ℕ) → hyp_end (row_hyp l r) ≡ (stmt l r).end
unfolding row_hyp
hyp_end_row l r = by_kind (stmt l r).kind
  where
    by_kind : (q : Kind) → hyp_end (hyp_by q l (stmt l r)) ≡ (stmt l r).end
    by_kind $c = refl
    by_kind $v = refl
    by_kind $d = refl
    by_kind $f = refl
    by_kind $e = refl
    by_kind $a = refl
    by_kind $p = refl

pub hyps_active :
    (l : List Statement) (k o : ℕ)
    → (view (state_at l k) o).hyps ≡ map (row_hyp l) (keep (λ r. ltb o (stmt l r).end) (rows_of is_hyp l k))
unfolding view
hyps_active l k o =
    ap (keep (active_hyp o)) (hyps_by_rows l k)
    ∙ keep_map (active_hyp o) (row_hyp l) (λ r. ltb o (stmt l r).end) (λ r. ap (ltb o) (hyp_end_row l r)) (rows_of is_hyp l k)

pub disjoints_active :
    (l : List Statement) (k o : ℕ)
    → (view (state_at l k) o).disjoints ≡ map (row_disjoint l) (keep (λ r. ltb o (stmt l r).end) (rows_of is_disjoint l k))
unfolding view row_disjoint
disjoints_active l k o =
    ap (keep (active_disjoint o)) (disjoints_by_rows l k)
    ∙ keep_map (active_disjoint o) (row_disjoint l) (λ r. ltb o (stmt l r).end) (λ r. refl) (rows_of is_disjoint l k)

-- ---- the rows
module _ (q : Kind → Bool) (l : List Statement) where
  pub rows_next : (k : ℕ) → rows_of q l (k + 1) ≡ rows_of q l k ++ choose (and (q (stmt l k).kind) (accepted l k)) (k ∷ []) []
  unfolding rows_of
  rows_next k = rw (add-one k)

  -- one more row, if it is one
  one_row : (P : ℕ → Type 0) (k : ℕ) → ((q (stmt l k).kind ≡ true) → accepted l k ≡ true → P k)
      → All P (choose (and (q (stmt l k).kind) (accepted l k)) (k ∷ []) [])
  one_row P k f =
      split (q (stmt l k).kind)
      (λ a. split (accepted l k) (λ b. rw (a, b) (all_more (f a b) all_none)) (λ b. rw (a, b) all_none))
      (λ a. rw a all_none)

  pub rows_all : (P : ℕ → Type 0) (k : ℕ) → ((r : ℕ) → r < k → q (stmt l r).kind ≡ true → accepted l r ≡ true → P r) → All P (rows_of q l k)
  unfolding rows_of
  rows_all P zero f = all_none
  rows_all P (suc k) f =
      all_append (rows_all P k (λ r h. f r (omega arith))) (one_row P k (f k (le_refl (suc k))))

  pub rows_below : (k : ℕ) → All (λ r. r < k) (rows_of q l k)
  rows_below k = rows_all (λ r. r < k) k (λ r h a b. h)

  one_two : (R : ℕ → ℕ → Type 0) (k : ℕ) → Two R (choose (and (q (stmt l k).kind) (accepted l k)) (k ∷ []) [])
  one_two R k =
      split (q (stmt l k).kind)
      (λ a. split (accepted l k) (λ b. rw (a, b) (two_more all_none two_none)) (λ b. rw (a, b) two_none))
      (λ a. rw a two_none)

  pub rows_rise : (k : ℕ) → Two (λ r s. r < s) (rows_of q l k)
  unfolding rows_of
  rows_rise zero = two_none
  rows_rise (suc k) =
      two_append (rows_rise k) (one_two (λ r s. r < s) k)
      (all_map (λ r h. one_row (λ s. r < s) k (λ a b. h)) (rows_below k))

-- the `$e` among the hypotheses
pub essential_rows : (l : List Statement) (k : ℕ) → rows_of is_essential l k ≡ keep (λ r. is_essential (stmt l r).kind) (rows_of is_hyp l k)
unfolding rows_of keep
essential_rows l zero = refl
essential_rows l (suc k) =
    rw (essential_rows l k)
    (sym (keep_append p (rows_of is_hyp l k) (choose (and (is_hyp (stmt l k).kind) (accepted l k)) (k ∷ []) [])
    ∙ ap (λ m. keep p (rows_of is_hyp l k) ++ m) (by_kind (stmt l k).kind refl)))
  where
    p : ℕ → Bool
    p r = is_essential (stmt l r).kind

    by_kind : (q : Kind) → (stmt l k).kind ≡ q
        → keep p (choose (and (is_hyp q) (accepted l k)) (k ∷ []) []) ≡ choose (and (is_essential q) (accepted l k)) (k ∷ []) []
    by_kind $c e = refl
    by_kind $v e = refl
    by_kind $d e = refl
    by_kind $f e = split (accepted l k) (λ a. rw (a, e)) (λ a. rw a)
    by_kind $e e = split (accepted l k) (λ a. rw (a, e)) (λ a. rw a)
    by_kind $a e = refl
    by_kind $p e = refl

-- the formulas that hypotheses bring in are those of the `$e` among them
pub formulas_by_rows :
    (l : List Statement) {rs : List ℕ}
    → All (λ r. is_hyp (stmt l r).kind ≡ true) rs
    → gather formula_in (map (row_hyp l) rs) ≡ map (λ r. static l (stmt l r)) (keep (λ r. is_essential (stmt l r).kind) rs)
unfolding gather keep
formulas_by_rows l all_none = refl
formulas_by_rows l (all_more {x = r} {l = rs} h t) = by_kind (stmt l r).kind refl h (formulas_by_rows l t)
  where
    by_kind : (q : Kind) → (stmt l r).kind ≡ q → is_hyp q ≡ true
        → gather formula_in (map (row_hyp l) rs) ≡ map (λ x. static l (stmt l x)) (keep (λ x. is_essential (stmt l x).kind) rs)
        → formula_in (row_hyp l r) ++ gather formula_in (map (row_hyp l) rs)
        ≡ map (λ x. static l (stmt l x)) (choose (is_essential (stmt l r).kind) (r ∷ keep (λ x. is_essential (stmt l x).kind) rs) (keep (λ x. is_essential (stmt l x).kind) rs))
    by_kind $c e a b = let z : false ≡ true = a in absurd (clash (sym z))
    by_kind $v e a b = let z : false ≡ true = a in absurd (clash (sym z))
    by_kind $d e a b = let z : false ≡ true = a in absurd (clash (sym z))
    by_kind $f e a b = let c : is_essential (stmt l r).kind ≡ false = ap is_essential e in rw (row_float l r e, c) b
    by_kind $e e a b = let c : is_essential (stmt l r).kind ≡ true = ap is_essential e in rw (row_essential l r e, c, b)
    by_kind $a e a b = let z : false ≡ true = a in absurd (clash (sym z))
    by_kind $p e a b = let z : false ≡ true = a in absurd (clash (sym z))
