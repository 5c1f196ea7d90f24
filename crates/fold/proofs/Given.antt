-- The frame that a statement gives, by its kind and whether it is accepted.
-- Assumes nothing of the statements.
use mathlib.Core.Path.{◌≡◌, refl, sym, ap, ◌∙◌}
use mathlib.Core.Bool.{true, false}
use mathlib.Core.List.{List, [], ◌∷◌}
use Prim.Native.Nat.{ℕ, ◌<◌}
use native.Mathlib.Omega.{arith}
use Rattle.paper.specs.Statements.{Kind, $c, $v, $d, $f, $e, $a, $p, Statement, outermost}
use Rattle.paper.specs.Checks.{check_label, check_float, check_expression, check_disjoint}
use Rattle.paper.specs.Variables.{formula}
use Rattle.paper.specs.Frames.{frame_of}
use Rattle.paper.specs.Give.{Given, give_c, give_v, give_d, give_f, give_e, give_assertion, give_by, give}
use Rattle.paper.proofs.Tests.{split, clash}
use Rattle.reader.specs.Rows.{stmt}
use Rattle.facts.specs.States.{view_at, given_at}
use Rattle.facts.proofs.Gives.{by_diags}
use Rattle.history.specs.Accepted.{no_diags, accepted}
use Rattle.frames.specs.Stub.{stub_of}
use Rattle.frames.specs.Front.{record_kind}

module _ (l : List Statement) (k : ℕ) where
  pub given_by : {q : Kind} → (stmt l k).kind ≡ q → given_at l k ≡ give_by q l (view_at l k) (stmt l k)
  unfolding given_at give
  given_by e = ap (λ q. give_by q l (view_at l k) (stmt l k)) e

  -- ---- an assertion
  assertion_none : (n : ℕ) → no_diags (give_assertion n l (view_at l k) (stmt l k)).diags ≡ false → (give_assertion n l (view_at l k) (stmt l k)).frame ≡ []
  unfolding give_assertion
  assertion_none n a =
      by_diags (check_label l (stmt l k))
      (λ p. by_diags (check_expression l (view_at l k) (stmt l k))
      (λ r. absurd (clash (rw (p, r) at a)))
      (λ x d r. rw (p, r)))
      (λ x d p. rw p)

  -- accepted: its expression is clean, and it gives its frame
  pub record Asserts (n : ℕ) (g : Given) : Type 0 where
    pub clean : check_expression l (view_at l k) (stmt l k) ≡ []
    pub frame : g.frame ≡ frame_of n (stmt l k) (view_at l k) (formula l (view_at l k) (stmt l k)) ∷ []

  assertion_some : (n : ℕ) → no_diags (give_assertion n l (view_at l k) (stmt l k)).diags ≡ true → Asserts n (give_assertion n l (view_at l k) (stmt l k))
  unfolding give_assertion
  assertion_some n a =
      by_diags (check_label l (stmt l k))
      (λ p. by_diags (check_expression l (view_at l k) (stmt l k))
      (λ r. record { clean = r; frame = rw (p, r) })
      (λ x d r. absurd (clash (sym (rw (p, r) at a)))))
      (λ x d p. absurd (clash (sym (rw p at a))))

  asserts_by : (q : Kind) → 0 < record_kind q → no_diags (give_by q l (view_at l k) (stmt l k)).diags ≡ true → Asserts (record_kind q) (give_by q l (view_at l k) (stmt l k))
  asserts_by $c h a = absurd (omega arith)
  asserts_by $v h a = absurd (omega arith)
  asserts_by $d h a = absurd (omega arith)
  asserts_by $f h a = absurd (omega arith)
  asserts_by $e h a = absurd (omega arith)
  asserts_by $a h a = assertion_some 2 a
  asserts_by $p h a = assertion_some 3 a

  pub asserts : 0 < record_kind (stmt l k).kind → accepted l k ≡ true → Asserts (record_kind (stmt l k).kind) (given_at l k)
  unfolding accepted given_at give
  asserts h a = asserts_by (stmt l k).kind h a

  -- ---- a `$f`
  float_some : no_diags (give_f l (view_at l k) (stmt l k)).diags ≡ true → (give_f l (view_at l k) (stmt l k)).frame ≡ stub_of (stmt l k) ∷ []
  unfolding give_f stub_of
  float_some a =
      by_diags (check_label l (stmt l k))
      (λ p. by_diags (check_float l (view_at l k) (stmt l k))
      (λ r. rw (p, r))
      (λ x d r. absurd (clash (sym (rw (p, r) at a)))))
      (λ x d p. absurd (clash (sym (rw p at a))))

  pub gives_stub : (stmt l k).kind ≡ $f → accepted l k ≡ true → (given_at l k).frame ≡ stub_of (stmt l k) ∷ []
  unfolding accepted
  gives_stub e a =
      ap (λ g. g.frame) (given_by e) ∙ float_some (sym (ap (λ g. no_diags g.diags) (given_by e)) ∙ a)

  -- ---- what is rejected, and what is no `$f`, `$a` or `$p`
  rejected_by : (q : Kind) → no_diags (give_by q l (view_at l k) (stmt l k)).diags ≡ false → (give_by q l (view_at l k) (stmt l k)).frame ≡ []
  unfolding give_c give_v give_d give_f give_e
  rejected_by $c a = split (outermost (stmt l k)) (λ o. rw o) (λ o. rw o)
  rejected_by $v a = split (outermost (stmt l k)) (λ o. rw o) (λ o. rw o)
  rejected_by $d a = by_diags (check_disjoint l (view_at l k) (stmt l k)) (λ r. rw r) (λ x d r. rw r)
  rejected_by $f a =
      by_diags (check_label l (stmt l k))
      (λ p. by_diags (check_float l (view_at l k) (stmt l k))
      (λ r. absurd (clash (rw (p, r) at a)))
      (λ x d r. rw (p, r)))
      (λ x d p. rw p)
  rejected_by $e a =
      by_diags (check_label l (stmt l k))
      (λ p. by_diags (check_expression l (view_at l k) (stmt l k)) (λ r. rw (p, r)) (λ x d r. rw (p, r)))
      (λ x d p. rw p)
  rejected_by $a a = assertion_none 2 a
  rejected_by $p a = assertion_none 3 a

  pub gives_rejected : accepted l k ≡ false → (given_at l k).frame ≡ []
  unfolding accepted given_at give
  gives_rejected a = rejected_by (stmt l k).kind a

  unframed_by : (q : Kind) → record_kind q ≡ 0 → (q ≡ $f → ⊥) → (give_by q l (view_at l k) (stmt l k)).frame ≡ []
  unfolding give_c give_v give_d give_e
  unframed_by $c h n = split (outermost (stmt l k)) (λ o. rw o) (λ o. rw o)
  unframed_by $v h n = split (outermost (stmt l k)) (λ o. rw o) (λ o. rw o)
  unframed_by $d h n = by_diags (check_disjoint l (view_at l k) (stmt l k)) (λ r. rw r) (λ x d r. rw r)
  unframed_by $f h n = absurd (n refl)
  unframed_by $e h n =
      by_diags (check_label l (stmt l k))
      (λ p. by_diags (check_expression l (view_at l k) (stmt l k)) (λ r. rw (p, r)) (λ x d r. rw (p, r)))
      (λ x d p. rw p)
  unframed_by $a h n = absurd (omega arith)
  unframed_by $p h n = absurd (omega arith)

  pub gives_none : record_kind (stmt l k).kind ≡ 0 → ((stmt l k).kind ≡ $f → ⊥) → (given_at l k).frame ≡ []
  unfolding given_at give
  gives_none h n = unframed_by (stmt l k).kind h n
