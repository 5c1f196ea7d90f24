-- An accepted `$d` names variables, all different.
-- Assumes nothing of the statements.
use mathlib.Core.Path.{◌≡◌, refl, sym, ap, ◌∙◌}
use mathlib.Core.Bool.{true, false}
use mathlib.Core.List.{List, [], ◌∷◌}
use Prim.Native.Nat.{ℕ, zero, suc, ◌+◌, ◌<◌, ◌≤◌}
use native.Mathlib.Omega.{arith}
use lib.Dec.{ltb}
use lib.ListN.{length, get_or}
use borrow.Author.Tests.{ltb-false}
use Rattle.paper.specs.Base.{sameb}
use Rattle.paper.specs.Tokens.{Token}
use Rattle.paper.specs.Statements.{Kind, $c, $v, $d, $f, $e, $a, $p, Statement}
use Rattle.paper.specs.State.{State, con, var, Sense, inactive, constant, variable, sense}
use Rattle.paper.specs.Checks.{no_token, token, first_index, disjoint_diags, disjoint_token, check_disjoint}
use Rattle.paper.specs.Variables.{symbol_of}
use Rattle.paper.specs.Give.{give_d}
use Rattle.paper.proofs.Tests.{split, clash, same_refl}
use Rattle.paper.proofs.Alls.{All, all_none, all_more}
use Rattle.reader.specs.Rows.{stmt}
use Rattle.facts.specs.States.{view_at}
use Rattle.facts.proofs.Gives.{by_diags}
use Rattle.sight.specs.Static.{constant_name}
use Rattle.history.specs.Accepted.{no_diags, accepted, is_disjoint, rows_of}
use Rattle.history.proofs.Static.{view_names, symbol_static, Each, each_nil, each_cons, each_none}
use Rattle.history.proofs.Active.{rows_all}
use Rattle.frames.specs.Assert.{Apart}
use Rattle.fold.proofs.Given.{given_by}

-- ---- a token without a diagnostic is that of a variable, and the first of its name
clear : (z : Sense) (j s i : ℕ) → disjoint_diags z j s i ≡ [] → (z ≡ variable) × (ltb j i ≡ false)
clear inactive j s i e = absurd cc
clear constant j s i e = absurd cc
clear variable j s i e = (refl, split (ltb j i) (λ q. let z : _ ∷ [] ≡ [] = rw q at e in absurd cc) (λ q. q))

each_at : {P : ℕ → Token → Type 0} {i : ℕ} {m : List Token} → Each P i m → (j q : ℕ) → j < length m → q ≡ i + j → P q (get_or m j no_token)
each_at each_nil j q g e = absurd (omega arith)
each_at {P = P} (each_cons {i = i} p r) zero q g e = let z : i ≡ q = omega (arith, e) in rw z at p
each_at {P = P} (each_cons {i = i} p r) (suc j) q g e = each_at r j q (omega arith) (omega (arith, e))

each_all : {P : ℕ → Token → Type 0} {Q : Token → Type 0} {i : ℕ} {m : List Token} → ((j : ℕ) (t : Token) → P j t → Q t) → Each P i m → All Q m
each_all f each_nil = all_none
each_all f (each_cons {i = i} {t = t} p r) = all_more (f i t p) (each_all f r)

first_le : (m : List Token) (i : ℕ) → i < length m → first_index m (get_or m i no_token).bytes ≤ i
unfolding first_index
first_le [] i g = absurd (omega arith)
first_le (t ∷ m) zero g = rw (same_refl t.bytes) (omega arith)
first_le (t ∷ m) (suc i) g =
    split (sameb t.bytes (get_or m i no_token).bytes)
    (λ q. rw q (omega arith))
    (λ q. rw q (omega (arith, first_le m i (omega arith))))

module _ (l : List Statement) (k : ℕ) (c : check_disjoint l (view_at l k) (stmt l k) ≡ []) where
  clean : Each (λ i t. disjoint_token l (view_at l k) (stmt l k) i t ≡ []) 0 (stmt l k).math
  unfolding check_disjoint
  clean = each_none (disjoint_token l (view_at l k) (stmt l k)) (stmt l k).math 0 c

  of_variable : (t : Token) → sense l (view_at l k) t ≡ variable → constant_name l t.bytes ≡ false
  unfolding view_at
  of_variable t e =
      split (constant_name l t.bytes)
      (λ q.
      let n : sense l (view_at l k) t ≡ inactive → ⊥ = λ z. (let x : variable ≡ inactive = sym e ∙ z in cc) in
      let z : var t.bytes ≡ con t.bytes =
      sym (ap (λ x. symbol_of x t.bytes) e) ∙ symbol_static l (view_at l k) (view_names l k (stmt l k).at) t n ∙ rw q in
      absurd cc)
      (λ q. q)

  apart : k < length l → Apart l k
  apart h =
      record {
        here = h;
        variables = each_all (λ i t e. of_variable t (clear (sense l (view_at l k) t) (first_index (stmt l k).math t.bytes) (stmt l k).at i e).0) clean;
        differ = λ i j g m e.
            let x = (clear (sense l (view_at l k) (token (stmt l k) j)) (first_index (stmt l k).math (token (stmt l k) j).bytes) (stmt l k).at j (each_at clean j j m (omega arith))).1 in
            let f : first_index (stmt l k).math (token (stmt l k) j).bytes ≤ i = rw e at (first_le (stmt l k).math i (omega arith)) in
            omega (arith, ltb-false (first_index (stmt l k).math (token (stmt l k) j).bytes) j x);
      }

-- ---- the rows of accepted `$d`
disjoint_kind : (q : Kind) → is_disjoint q ≡ true → q ≡ $d
disjoint_kind $c e = absurd (clash (sym e))
disjoint_kind $v e = absurd (clash (sym e))
disjoint_kind $d e = refl
disjoint_kind $f e = absurd (clash (sym e))
disjoint_kind $e e = absurd (clash (sym e))
disjoint_kind $a e = absurd (clash (sym e))
disjoint_kind $p e = absurd (clash (sym e))

given_clean : (l : List Statement) (v : State) (s : Statement) → no_diags (give_d l v s).diags ≡ true → check_disjoint l v s ≡ []
unfolding give_d
given_clean l v s a = by_diags (check_disjoint l v s) (λ q. q) (λ x d q. absurd (clash (sym (rw q at a))))

accepted_clean : (l : List Statement) (r : ℕ) → (stmt l r).kind ≡ $d → accepted l r ≡ true → check_disjoint l (view_at l r) (stmt l r) ≡ []
unfolding accepted
accepted_clean l r e a = given_clean l (view_at l r) (stmt l r) (sym (ap (λ g. no_diags g.diags) (given_by l r e)) ∙ a)

pub rows_apart : (l : List Statement) (k : ℕ) → k ≤ length l → All (Apart l) (rows_of is_disjoint l k)
rows_apart l k h =
    rows_all is_disjoint l (Apart l) k
    (λ r g e a. apart l r (accepted_clean l r (disjoint_kind (stmt l r).kind e) a) (omega arith))
