-- What a statement records, by cases: nothing; the tokens of a nested `$v`; an accepted `$d`, `$f` or `$e`.
-- Assumes nothing of the statements.
use mathlib.Core.Path.{◌≡◌, refl}
use mathlib.Core.Bool.{false}
use mathlib.Core.List.{List, [], ◌∷◌, map}
use Prim.Native.Nat.{ℕ}
use Rattle.paper.specs.Statements.{Kind, $c, $v, $d, $f, $e, $a, $p, Statement, outermost}
use Rattle.paper.specs.State.{float, essential, State, nothing}
use Rattle.paper.specs.Checks.{Diag, token, check_label, nested_records, check_float, check_expression, check_disjoint}
use Rattle.paper.specs.Variables.{formula}
use Rattle.paper.specs.Give.{with_nested, with_hyp, with_disjoint, give_c, give_v, give_d, give_f, give_e, give_assertion, give_by, give}
use Rattle.paper.proofs.Tests.{split}

pub record Cases (Q : State → Type 0) (w : List Statement) (v : State) (s : Statement) : Type 0 where
  pub without : Q nothing
  pub variables : s.kind ≡ $v → outermost s ≡ false → Q (with_nested (nested_records w s.end s.math v.nested))
  pub apart : s.kind ≡ $d → check_disjoint w v s ≡ [] → Q (with_disjoint (record { end = s.end; names = map (λ t. t.bytes) s.math }))
  pub floating :
      s.kind ≡ $f → check_label w s ≡ [] → check_float w v s ≡ []
      → Q (with_hyp (float s.at s.end (token s 1).bytes (token s 0).bytes))
  pub logical :
      s.kind ≡ $e → check_label w s ≡ [] → check_expression w v s ≡ []
      → Q (with_hyp (essential s.at s.end (formula w v s)))

-- by the diagnostics of a check, with what they are
pub by_diags : {P : Type 0} (d : List Diag) → (d ≡ [] → P) → ((x : Diag) (r : List Diag) → d ≡ x ∷ r → P) → P
by_diags [] f g = f refl
by_diags (x ∷ r) f g = g x r refl

module _ (Q : State → Type 0) (w : List Statement) (v : State) (s : Statement) (h : Cases Q w v s) where
  assertion : (k : ℕ) → Q (give_assertion k w v s).records
  unfolding give_assertion
  assertion k =
      by_diags (check_label w s)
      (λ p. by_diags (check_expression w v s) (λ q. rw (p, q) h.without) (λ x r q. rw (p, q) h.without))
      (λ x r p. rw p h.without)

  by_kind : (k : Kind) → s.kind ≡ k → Q (give_by k w v s).records
  unfolding give_c give_v give_d give_f give_e
  by_kind $c e = split (outermost s) (λ o. rw o h.without) (λ o. rw o h.without)
  by_kind $v e = split (outermost s) (λ o. rw o h.without) (λ o. rw o (h.variables e o))
  by_kind $d e = by_diags (check_disjoint w v s) (λ q. rw q (h.apart e q)) (λ x r q. rw q h.without)
  by_kind $f e =
      by_diags (check_label w s)
      (λ p. by_diags (check_float w v s) (λ q. rw (p, q) (h.floating e p q)) (λ x r q. rw (p, q) h.without))
      (λ x r p. rw p h.without)
  by_kind $e e =
      by_diags (check_label w s)
      (λ p. by_diags (check_expression w v s) (λ q. rw (p, q) (h.logical e p q)) (λ x r q. rw (p, q) h.without))
      (λ x r p. rw p h.without)
  by_kind $a e = assertion 2
  by_kind $p e = assertion 3

  pub give_by_cases : Q (give w v s).records
  unfolding give
  give_by_cases = by_kind s.kind refl
