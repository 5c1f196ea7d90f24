-- The states before the statements, one after the other, are those that the fold of the definitions goes through.
-- Assumes nothing of the statements.
use mathlib.Core.Path.{◌≡◌, refl, sym, ap, ◌∙◌}
use mathlib.Core.List.{List, [], ◌∷◌, ◌++◌, append_assoc, append-nil}
use Prim.Native.Nat.{ℕ, zero, suc, ◌+◌, ◌<◌, ◌≤◌}
use native.Mathlib.Nat.{le_refl}
use native.Mathlib.Numerals.{add-one}
use native.Mathlib.Omega.{arith}
use lib.ListN.{length, drop, drop_of_length-le}
use lib.Seq.{drop-cons}
use Rattle.paper.specs.Base.{table}
use Rattle.paper.specs.Statements.{Statement}
use Rattle.paper.specs.State.{nothing, plus}
use Rattle.paper.specs.Give.{gives, all_given}
use Rattle.reader.specs.Rows.{no_statement, stmt}
use Rattle.facts.specs.States.{state_at, view_at, given_at}

pub state_start : (l : List Statement) → state_at l 0 ≡ nothing
unfolding state_at
state_start l = refl

pub state_suc : (l : List Statement) (k : ℕ) → state_at l (suc k) ≡ plus (state_at l k) (given_at l k).records
unfolding state_at given_at view_at
state_suc l k = refl

pub state_next : (l : List Statement) (k : ℕ) → state_at l (k + 1) ≡ plus (state_at l k) (given_at l k).records
state_next l k = ap (state_at l) (add-one k) ∙ state_suc l k

-- ---- the fold, cut before the k-th statement
rest_suc : (l : List Statement) (k : ℕ) → k < length l
    → gives l (drop k l) (state_at l k) ≡ given_at l k ∷ gives l (drop (suc k) l) (state_at l (suc k))
unfolding gives given_at view_at stmt
rest_suc l k h = rw (drop-cons l k no_statement h, state_suc l k)

pub rest_next : (l : List Statement) (k : ℕ) → k < length l
    → gives l (drop k l) (state_at l k) ≡ given_at l k ∷ gives l (drop (k + 1) l) (state_at l (k + 1))
rest_next l k h = rw (add-one k) (rest_suc l k h)

pub rest_none : (l : List Statement) (k : ℕ) → length l ≤ k → gives l (drop k l) (state_at l k) ≡ []
unfolding gives
rest_none l k h = rw (drop_of_length-le l h)

pub given_cut : (l : List Statement) (k : ℕ) → k ≤ length l → all_given l ≡ table (given_at l) k ++ gives l (drop k l) (state_at l k)
unfolding table all_given
given_cut l zero h = ap (gives l l) (sym (state_start l))
given_cut l (suc k) h =
    given_cut l k (omega arith)
    ∙ ap (λ r. table (given_at l) k ++ r) (rest_suc l k h)
    ∙ sym (append_assoc (table (given_at l) k) (given_at l k ∷ []) (gives l (drop (suc k) l) (state_at l (suc k))))

pub all_given_table : (l : List Statement) → all_given l ≡ table (given_at l) (length l)
all_given_table l =
    given_cut l (length l) (le_refl _)
    ∙ ap (λ r. table (given_at l) (length l) ++ r) (rest_none l (length l) (le_refl _))
    ∙ append-nil (table (given_at l) (length l))
