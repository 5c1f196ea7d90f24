-- What is recorded, by the rows of accepted statements: hypotheses by those of `$f` and `$e`, and `$d` by theirs.
-- Assumes nothing of the statements.
use mathlib.Core.Path.{◌≡◌, refl, sym, ap}
use mathlib.Core.Bool.{false}
use mathlib.Core.List.{List, [], ◌∷◌, ◌++◌, map}
use Prim.Native.Nat.{ℕ, zero, suc}
use Rattle.paper.specs.Base.{choose, and}
use Rattle.paper.specs.Statements.{Kind, $c, $v, $d, $f, $e, $a, $p, Statement, outermost}
use Rattle.paper.specs.State.{float, essential}
use Rattle.paper.specs.Checks.{token, check_label, check_float, check_expression, check_disjoint}
use Rattle.paper.specs.Give.{Given, give_c, give_v, give_d, give_f, give_e, give_assertion, give_by, give}
use Rattle.paper.proofs.Tests.{split}
use Rattle.reader.specs.Rows.{stmt}
use Rattle.facts.specs.States.{state_at, view_at, given_at}
use Rattle.facts.proofs.Gives.{by_diags}
use Rattle.facts.proofs.States.{state_start, state_suc}
use Rattle.sight.specs.Static.{static, hyp_by, row_hyp, row_disjoint}
use Rattle.history.specs.Accepted.{no_diags, accepted, is_hyp, is_disjoint, rows_of}
use Rattle.history.proofs.Static.{formula_static}

-- what row k of kind q gives
record Tells (l : List Statement) (k : ℕ) (q : Kind) (g : Given) : Type 0 where
  hyps : g.records.hyps ≡ map (row_hyp l) (choose (and (is_hyp q) (no_diags g.diags)) (k ∷ []) [])
  disjoints : g.records.disjoints ≡ map (row_disjoint l) (choose (and (is_disjoint q) (no_diags g.diags)) (k ∷ []) [])

module _ (l : List Statement) (k : ℕ) where
  pub row_float :
      (stmt l k).kind ≡ $f
      → row_hyp l k ≡ float (stmt l k).at (stmt l k).end (token (stmt l k) 1).bytes (token (stmt l k) 0).bytes
  unfolding row_hyp
  row_float e = ap (λ q. hyp_by q l (stmt l k)) e

  pub row_essential : (stmt l k).kind ≡ $e → row_hyp l k ≡ essential (stmt l k).at (stmt l k).end (static l (stmt l k))
  unfolding row_hyp
  row_essential e = ap (λ q. hyp_by q l (stmt l k)) e

  assertion_tells : (n : ℕ) (q : Kind) → is_hyp q ≡ false → is_disjoint q ≡ false → Tells l k q (give_assertion n l (view_at l k) (stmt l k))
  unfolding give_assertion
  assertion_tells n q a b =
      by_diags (check_label l (stmt l k))
      (λ p. by_diags (check_expression l (view_at l k) (stmt l k))
      (λ r. rw (p, r) (record { hyps = rw a; disjoints = rw b }))
      (λ x d r. rw (p, r) (record { hyps = rw a; disjoints = rw b })))
      (λ x d p. rw p (record { hyps = rw a; disjoints = rw b }))

  kind_tells : (q : Kind) → (stmt l k).kind ≡ q → Tells l k q (give_by q l (view_at l k) (stmt l k))
  unfolding give_c give_v give_d give_f give_e row_disjoint
  kind_tells $c e =
      split (outermost (stmt l k))
      (λ o. rw o (record { hyps = refl; disjoints = refl }))
      (λ o. rw o (record { hyps = refl; disjoints = refl }))
  kind_tells $v e =
      split (outermost (stmt l k))
      (λ o. rw o (record { hyps = refl; disjoints = refl }))
      (λ o. rw o (record { hyps = refl; disjoints = refl }))
  kind_tells $d e =
      by_diags (check_disjoint l (view_at l k) (stmt l k))
      (λ r. rw r (record { hyps = refl; disjoints = refl }))
      (λ x d r. rw r (record { hyps = refl; disjoints = refl }))
  kind_tells $f e =
      by_diags (check_label l (stmt l k))
      (λ p. by_diags (check_float l (view_at l k) (stmt l k))
      (λ r. rw (p, r) (record { hyps = rw (row_float e); disjoints = refl }))
      (λ x d r. rw (p, r) (record { hyps = refl; disjoints = refl })))
      (λ x d p. rw p (record { hyps = refl; disjoints = refl }))
  kind_tells $e e =
      by_diags (check_label l (stmt l k))
      (λ p. by_diags (check_expression l (view_at l k) (stmt l k))
      (λ r. rw (p, r) (record { hyps = rw (row_essential e, formula_static l k r); disjoints = refl }))
      (λ x d r. rw (p, r) (record { hyps = refl; disjoints = refl })))
      (λ x d p. rw p (record { hyps = refl; disjoints = refl }))
  kind_tells $a e = assertion_tells 2 $a refl refl
  kind_tells $p e = assertion_tells 3 $p refl refl

  row_tells : Tells l k (stmt l k).kind (given_at l k)
  unfolding given_at give
  row_tells = kind_tells (stmt l k).kind refl

-- ---- all that is recorded
map_append : {A B : Type 0} (f : A → B) (l m : List A) → map f (l ++ m) ≡ map f l ++ map f m
map_append f [] m = refl
map_append f (x ∷ l) m = ap (λ r. f x ∷ r) (map_append f l m)

pub hyps_by_rows : (l : List Statement) (k : ℕ) → (state_at l k).hyps ≡ map (row_hyp l) (rows_of is_hyp l k)
unfolding rows_of accepted
hyps_by_rows l zero = rw (state_start l)
hyps_by_rows l (suc k) =
    rw (state_suc l k, hyps_by_rows l k, (row_tells l k).hyps)
    (sym (map_append (row_hyp l) (rows_of is_hyp l k) (choose (and (is_hyp (stmt l k).kind) (no_diags (given_at l k).diags)) (k ∷ []) [])))

pub disjoints_by_rows : (l : List Statement) (k : ℕ) → (state_at l k).disjoints ≡ map (row_disjoint l) (rows_of is_disjoint l k)
unfolding rows_of accepted
disjoints_by_rows l zero = rw (state_start l)
disjoints_by_rows l (suc k) =
    rw (state_suc l k, disjoints_by_rows l k, (row_tells l k).disjoints)
    (sym (map_append (row_disjoint l) (rows_of is_disjoint l k) (choose (and (is_disjoint (stmt l k).kind) (no_diags (given_at l k).diags)) (k ∷ []) [])))
