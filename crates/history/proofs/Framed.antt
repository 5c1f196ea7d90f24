-- The frame of an accepted assertion, by rows: it looks only at the active hypotheses and `$d`.
-- Rows are told apart by their offsets.
use mathlib.Core.Path.{◌≡◌, refl, sym, ap, ◌∙◌}
use mathlib.Core.Bool.{true}
use mathlib.Core.List.{List, [], ◌∷◌, map}
use mathlib.Core.Option.{some}
use Prim.Native.Nat.{ℕ, ◌<◌}
use native.Mathlib.Omega.{arith}
use lib.Dec.{ltb}
use lib.ListN.{length}
use Rattle.paper.specs.Base.{keep, latest}
use Rattle.paper.specs.Statements.{Kind, $c, $v, $d, $f, $e, $a, $p, Statement}
use Rattle.paper.specs.State.{Formula, Hyp, State, view, float_name, float_of}
use Rattle.paper.specs.Checks.{token, check_expression}
use Rattle.paper.specs.Variables.{formula}
use Rattle.paper.specs.Frames.{frame_of}
use Rattle.paper.proofs.Tests.{split, by_option, clash, same_eq}
use Rattle.paper.proofs.Options.{none_some, some_same}
use Rattle.paper.proofs.Alls.{Any, any_here, any_later}
use Rattle.reader.specs.Rows.{stmt}
use Rattle.facts.specs.Facts.{Facts}
use Rattle.facts.specs.States.{state_at, view_at}
use Rattle.sight.specs.Static.{static, hyp_by, row_hyp, rows_state}
use Rattle.history.specs.Accepted.{is_hyp, is_disjoint, rows_of}
use Rattle.history.proofs.Static.{formula_static}
use Rattle.history.proofs.Active.{hyps_active, disjoints_active}

frame_alike :
    (n : ℕ) (s : Statement) (u v : State) {f g : Formula}
    → u.hyps ≡ v.hyps → u.disjoints ≡ v.disjoints → f ≡ g → frame_of n s u f ≡ frame_of n s v g
unfolding frame_of
frame_alike n s u v p q r = rw (p, q, r)

pub frame_by_rows :
    (l : List Statement) (k n : ℕ)
    → check_expression l (view_at l k) (stmt l k) ≡ []
    → frame_of n (stmt l k) (view_at l k) (formula l (view_at l k) (stmt l k))
    ≡ frame_of n (stmt l k)
    (rows_state l
    (keep (λ r. ltb (stmt l k).at (stmt l r).end) (rows_of is_hyp l k))
    (keep (λ r. ltb (stmt l k).at (stmt l r).end) (rows_of is_disjoint l k)))
    (static l (stmt l k))
unfolding view_at
frame_by_rows l k n e =
    frame_alike n (stmt l k) (view (state_at l k) (stmt l k).at) _
    (hyps_active l k (stmt l k).at) (disjoints_active l k (stmt l k).at) (formula_static l k e)

-- ---- rows by offset
pub same_row :
    {t : List ℕ} {l : List Statement}
    → Facts t l → (r s : ℕ) → r < length l → s < length l → (stmt l r).at ≡ (stmt l s).at → r ≡ s
same_row h r s a b e =
    let p : r < s → ⊥ = λ g. omega (arith, h.order r s g b) in
    let q : s < r → ⊥ = λ g. omega (arith, h.order s r g a) in
    omega arith

-- ---- the `$f` that is found is one of the rows
pub record IsFloat (l : List Statement) (x : List ℕ) (h : Hyp) (r : ℕ) : Type 0 where
  pub same : h ≡ row_hyp l r
  pub kind : (stmt l r).kind ≡ $f
  pub variable : (token (stmt l r) 1).bytes ≡ x

is_float :
    (l : List Statement) (x : List ℕ) (r : ℕ) {h : Hyp}
    → float_name x (row_hyp l r) ≡ true → h ≡ row_hyp l r → IsFloat l x h r
unfolding row_hyp
is_float l x r e s =
    let q = by_kind (stmt l r).kind refl e in
    record { same = s; kind = q.0; variable = q.1 }
  where
    by_kind : (q : Kind) → (stmt l r).kind ≡ q → float_name x (hyp_by q l (stmt l r)) ≡ true
        → ((stmt l r).kind ≡ $f) × ((token (stmt l r) 1).bytes ≡ x)
    by_kind $c e f = absurd (clash (sym f))
    by_kind $v e f = absurd (clash (sym f))
    by_kind $d e f = absurd (clash (sym f))
    by_kind $f e f = (e, same_eq _ _ f)
    by_kind $e e f = absurd (clash (sym f))
    by_kind $a e f = absurd (clash (sym f))
    by_kind $p e f = absurd (clash (sym f))

pub float_row :
    (l : List Statement) (x : List ℕ) (rs : List ℕ) {h : Hyp} → float_of (map (row_hyp l) rs) x ≡ some h → Any (IsFloat l x h) rs
unfolding float_of latest
float_row l x [] e = absurd (none_some e)
float_row l x (r ∷ rs) {h} e =
    by_option (latest (float_name x) (map (row_hyp l) rs))
    (λ y q. any_later (float_row l x rs (q ∙ ap some (some_same (rw q at e)))))
    (λ q. split (float_name x (row_hyp l r))
    (λ f. any_here (is_float l x r f (sym (some_same (rw (q, f) at e)))))
    (λ f. absurd (none_some (rw (q, f) at e))))
