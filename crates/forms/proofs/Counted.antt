-- How many hypotheses a frame has: one for each mandatory variable, and one for each active `$e`.
-- Each mandatory variable has its one `$f` among the rows.
use mathlib.Core.Path.{◌≡◌, refl, sym, ap, ◌∙◌}
use mathlib.Core.Bool.{Bool, true, false}
use mathlib.Core.List.{List, [], ◌∷◌, map}
use Prim.Native.Nat.{ℕ, zero, suc, ◌+◌, ◌<◌}
use native.Mathlib.Omega.{arith}
use lib.Dec.{eqb}
use lib.ListN.{length, get_or, length-append, get_or-append}
use borrow.Author.Tests.{eq-eqb, eqb-true}
use Rattle.paper.specs.Base.{and, or, sameb, any, keep}
use Rattle.paper.specs.Statements.{Kind, $c, $v, $d, $f, $e, $a, $p, Statement}
use Rattle.paper.specs.State.{float, essential}
use Rattle.paper.specs.Variables.{member, index}
use Rattle.paper.specs.Expressions.{hypothesis, hypotheses, pooled}
use Rattle.paper.specs.Checks.{token}
use Rattle.paper.proofs.Tests.{split, clash, same_refl, same_eq, eqb_ne}
use Rattle.paper.proofs.Names.{index_at, index_lt, member_at, Grown, grown_length, grown_index, Distinct}
use Rattle.area.specs.Cells.{statement_cell, word}
use Rattle.reader.specs.Rows.{stmt}
use Rattle.sight.specs.Static.{static, row_hyp, stack}
use Rattle.history.specs.Accepted as history
use Rattle.history.proofs.Rows as by_kind
use Rattle.forms.specs.HypRows.{among, floating, is_float, is_essential, variable_at, HypState}
use Rattle.forms.proofs.Order.{Up, rising, among_above}

-- ---- the hypothesis of a row, by its kind
pub float_kind : (k : Kind) → floating k ≡ true → k ≡ $f
float_kind $c e = absurd (clash (sym e))
float_kind $v e = absurd (clash (sym e))
float_kind $d e = absurd (clash (sym e))
float_kind $f e = refl
float_kind $e e = absurd (clash (sym e))
float_kind $a e = absurd (clash (sym e))
float_kind $p e = absurd (clash (sym e))

essential_is : (k : Kind) → history.is_essential k ≡ true → k ≡ $e
essential_is $c e = absurd (clash (sym e))
essential_is $v e = absurd (clash (sym e))
essential_is $d e = absurd (clash (sym e))
essential_is $f e = absurd (clash (sym e))
essential_is $e e = refl
essential_is $a e = absurd (clash (sym e))
essential_is $p e = absurd (clash (sym e))

not_both : (k : Kind) → floating k ≡ true → history.is_essential k ≡ false
not_both k e = ap history.is_essential (float_kind k e)

module _ (l : List Statement) (r : ℕ) where
  pub row_float : is_float l r ≡ true → row_hyp l r ≡ float (stmt l r).at (stmt l r).end (variable_at l r) (token (stmt l r) 0).bytes
  row_float e = by_kind.row_float l r (float_kind (stmt l r).kind e)

  pub row_essential : is_essential l r ≡ true → row_hyp l r ≡ essential (stmt l r).at (stmt l r).end (static l (stmt l r))
  row_essential e = by_kind.row_essential l r (essential_is (stmt l r).kind e)

-- ---- the rows of mandatory `$f`, and those of one variable
abbrev mandatory_float : List (List ℕ) → List Statement → ℕ → Bool
mandatory_float m l r = and (is_float l r) (member (variable_at l r) m)

abbrev float_for : List ℕ → List Statement → ℕ → Bool
float_for x l r = and (is_float l r) (sameb (variable_at l r) x)

among_here : (x : ℕ) (h : List ℕ) → among x (x ∷ h) ≡ true
unfolding among any
among_here x h = rw (eq-eqb x x refl)

among_there : (r x : ℕ) (h : List ℕ) → among r h ≡ true → among r (x ∷ h) ≡ true
unfolding among any
among_there r x h e = split (eqb r x) (λ q. rw q) (λ q. rw q e)

-- a hypothesis for each of them, and for each `$e`
rows_counted : (m : List (List ℕ)) (l : List Statement) (h : List ℕ) (a : ℕ) → ((r : ℕ) → among r h ≡ true → or (is_float l r) (is_essential l r) ≡ true)
    → length (hypotheses m (map (row_hyp l) h) a) ≡ length (keep (is_essential l) h) + length (keep (mandatory_float m l) h)
unfolding hypotheses keep
rows_counted m l [] a f = refl
rows_counted m l (r ∷ h) a f =
    let i = rows_counted m l h (a + length (pooled (row_hyp l r))) (λ s e. f s (among_there s r h e)) in
    let z = length-append (hypothesis m (row_hyp l r) a) (hypotheses m (map (row_hyp l) h) (a + length (pooled (row_hyp l r)))) in
    split (is_float l r)
    (λ e.
    let o : is_essential l r ≡ false = not_both (stmt l r).kind e in
    split (member (variable_at l r) m)
    (λ q.
    let s : length (hypothesis m (row_hyp l r) a) ≡ 1 = ap (λ x. length (hypothesis m x a)) (row_float l r e) ∙ rw q in
    rw (o, e, q) (omega (arith, i, z, s)))
    (λ q.
    let s : length (hypothesis m (row_hyp l r) a) ≡ 0 = ap (λ x. length (hypothesis m x a)) (row_float l r e) ∙ rw q in
    rw (o, e, q) (omega (arith, i, z, s))))
    (λ e.
    let o : is_essential l r ≡ true = rw e at (f r (among_here r h)) in
    let s : length (hypothesis m (row_hyp l r) a) ≡ 1 = ap (λ x. length (hypothesis m x a)) (row_essential l r o) in
    rw (o, e) (omega (arith, i, z, s)))

keep_none : (p : ℕ → Bool) (h : List ℕ) → ((r : ℕ) → among r h ≡ true → p r ≡ false) → length (keep p h) ≡ 0
unfolding keep
keep_none p [] f = refl
keep_none p (x ∷ h) f = rw (f x (among_here x h)) (keep_none p h (λ r e. f r (among_there r x h e)))

-- a test that only one row passes
keep_single : (p : ℕ → Bool) (h : List ℕ) (a s : ℕ) → Up a h → among s h ≡ true → p s ≡ true → ((r : ℕ) → among r h ≡ true → p r ≡ true → r ≡ s)
    → length (keep p h) ≡ 1
unfolding keep among any Up
keep_single p [] a s u i y f = absurd (clash (sym i))
keep_single p (x ∷ h) a s u i y f =
    split (eqb s x)
    (λ q.
    let z : s ≡ x = eqb-true s x q in
    let g : length (keep p h) ≡ 0 =
    keep_none p h
    (λ r e.
    split (p r)
    (λ k.
    let v : r ≡ s = f r (among_there r x h e) k in
    absurd (clash (sym e ∙ among_above h (suc x) r u.1 (omega (arith, v, z)))))
    (λ k. k)) in
    let k : p x ≡ true = ap p (sym z) ∙ y in
    rw k (omega (arith, g)))
    (λ q.
    let v : s ≡ x → ⊥ = eqb_ne q in
    let k : p x ≡ false = split (p x) (λ d. absurd (v (sym (f x (among_here x h) d)))) (λ d. d) in
    rw k (keep_single p h (suc x) s u.1 (rw q at i) y (λ r e d. f r (among_there r x h e) d)))

-- ---- as many mandatory `$f` as mandatory variables
module _ (l : List Statement) (x : List ℕ) (m : List (List ℕ)) (n : member x m ≡ false) where
  one_more : (h : List ℕ) → length (keep (mandatory_float (x ∷ m) l) h) ≡ length (keep (float_for x l) h) + length (keep (mandatory_float m l) h)
  unfolding keep any
  one_more [] = refl
  one_more (r ∷ h) =
      split (is_float l r)
      (λ e.
      split (sameb (variable_at l r) x)
      (λ q.
      let z : member (variable_at l r) m ≡ false = ap (λ y. member y m) (same_eq (variable_at l r) x q) ∙ n in
      rw (e, q, z) (omega (arith, one_more h)))
      (λ q.
      split (member (variable_at l r) m)
      (λ z. rw (e, q, z) (omega (arith, one_more h)))
      (λ z. rw (e, q, z) (omega (arith, one_more h)))))
      (λ e. rw e (one_more h))

distinct_first : (x : List ℕ) (m : List (List ℕ)) → Distinct (x ∷ m) → member x m ≡ false
unfolding index
distinct_first x m d =
    split (member x m)
    (λ e.
    let k = index m x in
    let z : index (x ∷ m) (get_or m k []) ≡ suc k = d.place (suc k) (omega (arith, index_lt x m e)) in
    let o : index (x ∷ m) x ≡ 0 = rw (same_refl x) in
    let q : index (x ∷ m) (get_or m k []) ≡ index (x ∷ m) x = ap (index (x ∷ m)) (index_at x m e) in
    absurd (omega (arith, z, o, q)))
    (λ e. e)

distinct_rest : (x : List ℕ) (m : List (List ℕ)) → Distinct (x ∷ m) → Distinct m
unfolding index
distinct_rest x m d =
    record {
      place = λ a k.
          let z : index (x ∷ m) (get_or m a []) ≡ suc a = d.place (suc a) (omega arith) in
          split (sameb x (get_or m a []))
          (λ q. let o : 0 ≡ suc a = rw q at z in absurd (omega (arith, o)))
          (λ q. let o : suc (index m (get_or m a [])) ≡ suc a = rw q at z in omega (arith, o));
    }

floats_counted : (l : List Statement) (h : List ℕ) (m : List (List ℕ)) → Distinct m → ((x : List ℕ) → member x m ≡ true → length (keep (float_for x l) h) ≡ 1)
    → length (keep (mandatory_float m l) h) ≡ length m
unfolding any
floats_counted l h [] d f = keep_none (mandatory_float [] l) h (λ r e. split (is_float l r) (λ q. rw q) (λ q. rw q))
floats_counted l h (x ∷ m) d f =
    omega (
      arith,
      one_more l x m (distinct_first x m d) h,
      f x (rw (same_refl x)),
      floats_counted l h m (distinct_rest x m d) (λ y e. f y (split (sameb y x) (λ q. rw q) (λ q. rw q e))),
    )

-- ---- the first variables of a longer list
pub grown_at : {m vs : List (List ℕ)} → Grown m vs → (k : ℕ) → k < length m → get_or vs k [] ≡ get_or m k []
grown_at {m} g k h = ap (λ r. get_or r k []) g.is ∙ get_or-append m g.more [] k h

pub grown_distinct : {m vs : List (List ℕ)} → Grown m vs → ((k : ℕ) → k < length vs → index vs (get_or vs k []) ≡ k) → Distinct m
grown_distinct {m} {vs} g d =
    record {
      place = λ k h.
          sym (grown_index g (get_or m k []) (member_at m k h))
          ∙ ap (index vs) (sym (grown_at g k h))
          ∙ d k (omega (arith, grown_length g));
    }

pub length_stack : (w : List ℕ) (c k : ℕ) → length (stack w c k) ≡ k
unfolding stack
length_stack w c zero = refl
length_stack w c (suc k) = omega (arith, length-append (stack w c k) (word w (statement_cell k c) ∷ []), length_stack w c k)

module _ {t w : List ℕ} {n : ℕ} {l : List Statement} {vs m : List (List ℕ)} {h : List ℕ} {k es row : ℕ} (s : HypState t w n l vs m h k es row) where
  pub rows_up : Up 0 h
  rows_up = rising h 0 (λ i e. omega arith) s.rows.rises

  single : (x : List ℕ) → member x m ≡ true → length (keep (float_for x l) h) ≡ 1
  single x e =
      let f = s.rows.floats x e in
      keep_single (float_for x l) h 0 f.row rows_up f.inside (rw (f.float, f.variable) (same_refl x))
      (λ r i q.
      split (is_float l r)
      (λ a.
      let v : variable_at l r ≡ x = same_eq (variable_at l r) x (rw a at q) in
      omega (arith, f.said, rw v at (s.rows.only r i a (rw v e))))
      (λ a. absurd (clash (sym (rw a at q)))))

  pub hyps_counted : length (hypotheses m (map (row_hyp l) h) 0) ≡ k + es
  hyps_counted =
      omega (
        arith,
        rows_counted m l h 0 s.rows.kinds,
        ap length s.rows.essentials,
        length_stack w 10 es,
        floats_counted l h m (grown_distinct s.grown s.ready.holds.numbered.place) single,
        s.count,
      )
