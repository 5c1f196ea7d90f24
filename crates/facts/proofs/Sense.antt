-- The global declaration of a name is a token of an outermost `$c` or `$v`, so it stands before or after the whole of any
-- other statement: for what a token is, the offset of its statement serves as well as its own.
use mathlib.Core.Path.{◌≡◌, sym, ap, ◌∙◌}
use mathlib.Core.Bool.{Bool, true, false}
use mathlib.Core.List.{List, [], ◌∷◌, map}
use mathlib.Core.Option.{some}
use Prim.Native.Nat.{ℕ, suc, ◌<◌, suc-le-suc}
use native.Mathlib.Omega.{arith}
use lib.Dec.{ltb}
use lib.ListN.{length, get_or}
use borrow.Author.Tests.{ltb-true, ltb-false, lt-ltb, le-ltb}
use Rattle.paper.specs.Base.{find, gather}
use Rattle.paper.specs.Tokens.{Token}
use Rattle.paper.specs.Statements.{Kind, $c, $v, $d, $f, $e, $a, $p, Statement, outermost}
use Rattle.paper.specs.Names.{Declared, declares, declared_by, declarations, declared, declares_name, global}
use Rattle.paper.specs.State.{Nested, State, by_nested, by_global, nested_of, sense}
use Rattle.paper.specs.Checks.{no_token, token, by_known, by_declared, verdict}
use Rattle.paper.proofs.Tests.{split, by_option}
use Rattle.paper.proofs.Options.{none_some, some_same}
use Rattle.paper.proofs.Lists.{find_append}
use Rattle.reader.specs.Rows.{stmt}
use Rattle.facts.specs.Facts.{Facts}

-- a declaration by a token of these
pub record Among (m : List Token) (g : Declared) : Type 0 where
  pub place : ℕ
  pub within : place < length m
  pub at : g.at ≡ (get_or m place no_token).at
  pub name : g.name ≡ (get_or m place no_token).bytes

find_map :
    (p : Declared → Bool) (c : Bool) (m : List Token) {g : Declared} → find p (map (declares c) m) ≡ some g → Among m g
unfolding find
find_map p c [] e = absurd (none_some e)
find_map p c (x ∷ m) {g} e =
    split (p (declares c x))
    (λ q. let y : declares c x ≡ g = some_same (rw q at e) in
    record { place = 0; within = omega arith; at = ap (λ d. d.at) (sym y); name = ap (λ d. d.name) (sym y) })
    (λ q. let r = find_map p c m (rw q at e) in
    record { place = suc r.place; within = suc-le-suc r.within; at = r.at; name = r.name })

-- by a statement that declares
found_by : (p : Declared → Bool) (s : Statement) {g : Declared} → find p (declarations s) ≡ some g → Among s.math g
unfolding find
found_by p s e =
    split (outermost s)
    (λ o. by_kind s.kind (rw o at e))
    (λ o. absurd (none_some (rw o at e)))
  where
    by_kind : (k : Kind) {g : Declared} → find p (declared_by k s.math) ≡ some g → Among s.math g
    by_kind $c e = find_map p true s.math e
    by_kind $v e = find_map p false s.math e
    by_kind $d e = absurd (none_some e)
    by_kind $f e = absurd (none_some e)
    by_kind $e e = absurd (none_some e)
    by_kind $a e = absurd (none_some e)
    by_kind $p e = absurd (none_some e)

-- the statement, by its row
pub record Source (l : List Statement) (g : Declared) : Type 0 where
  pub row : ℕ
  pub inside : row < length l
  pub among : Among (stmt l row).math g
  pub declares : declarations (stmt l row) ≡ [] → ⊥

source_found : (p : Declared → Bool) (l : List Statement) {g : Declared} → find p (gather declarations l) ≡ some g → Source l g
unfolding find gather stmt
source_found p [] e = absurd (none_some e)
source_found p (s ∷ l) {g} e =
    let f = sym (find_append p (declarations s) (gather declarations l)) ∙ e in
    by_option (find p (declarations s))
    (λ x q. let y : x ≡ g = some_same (rw q at f) in
    record {
      row = 0;
      inside = omega arith;
      among = rw (← y) (found_by p s q);
      declares = λ n. none_some (rw n at q);
    })
    (λ q. let r = source_found p l (rw q at f) in
    record { row = suc r.row; inside = suc-le-suc r.inside; among = r.among; declares = r.declares })

pub global_source : (l : List Statement) (n : List ℕ) {g : Declared} → global l n ≡ some g → Source l g
unfolding global declared
global_source l n e = source_found (declares_name n) l e

-- ---- what declares nothing: another kind (`kind_none s $d e refl`), or a nested statement
pub kind_none : (s : Statement) (k : Kind) → s.kind ≡ k → declared_by k s.math ≡ [] → declarations s ≡ []
kind_none s k e n =
    let f : declared_by s.kind s.math ≡ [] = ap (λ x. declared_by x s.math) e ∙ n in
    split (outermost s) (λ o. rw (o, f)) (λ o. rw o)

pub nested_none : (s : Statement) → outermost s ≡ false → declarations s ≡ []
nested_none s o = rw o

-- what stands before both of two places, or after both
both_before : {g a b : ℕ} → g < a → a < b → ltb g b ≡ ltb g a
both_before {g} {a} {b} p q = lt-ltb g b (omega arith) ∙ sym (lt-ltb g a p)

both_after : {g a b : ℕ} → b < g → a < b → ltb g b ≡ ltb g a
both_after {g} {a} {b} p q = le-ltb g b (omega arith) ∙ sym (le-ltb g a (omega arith))

-- ---- for a statement that is no outermost `$c` or `$v`
module _ {t : List ℕ} {l : List Statement} (h : Facts t l) (s i : ℕ) (m : s < length l) (o : i < length (stmt l s).math) (q : declarations (stmt l s) ≡ []) where
  pub before_alike :
      (n : List ℕ) {g : Declared}
      → global l n ≡ some g → ltb g.at (token (stmt l s) i).at ≡ ltb g.at (stmt l s).at
  before_alike n {g} e =
      let r = global_source l n e in
      let x = r.among in
      let a = (h.shaped s m).after i o in
      split (ltb r.row s)
      (λ p. both_before (omega (arith, x.at, h.apart r.row s x.place (ltb-true r.row s p) m x.within)) a)
      (λ p. split (ltb s r.row)
      (λ k. both_after
      (omega (arith, x.at, h.apart s r.row i (ltb-true s r.row k) r.inside o, (h.shaped r.row r.inside).after x.place x.within))
      a)
      (λ k. let z : r.row ≡ s = omega (arith, ltb-false r.row s p, ltb-false s r.row k) in
      absurd (r.declares (rw z q))))

  -- what a token is, and what a token of a nested `$v` does
  pub sense_at :
      (v : State)
      → sense l v (token (stmt l s) i)
      ≡ by_global (global l (token (stmt l s) i).bytes) (stmt l s).at (by_nested (nested_of v.nested (token (stmt l s) i).bytes))
  unfolding sense
  sense_at v =
      by_option (global l (token (stmt l s) i).bytes)
      (λ g e. rw (e, before_alike (token (stmt l s) i).bytes e))
      (λ e. rw e)

  pub verdict_at :
      (known : List Nested)
      → verdict l known (token (stmt l s) i)
      ≡ by_declared (global l (token (stmt l s) i).bytes) (stmt l s).at (by_known (nested_of known (token (stmt l s) i).bytes))
  unfolding verdict
  verdict_at known =
      by_option (global l (token (stmt l s) i).bytes)
      (λ g e. rw (e, before_alike (token (stmt l s) i).bytes e))
      (λ e. rw e)
