-- The ends of statements: each stands after its statement, and a later statement that starts before an earlier one's
-- end ends no later.
use mathlib.Core.Path.{◌≡◌, refl}
use mathlib.Core.List.{List, [], ◌∷◌}
use Prim.Native.Nat.{ℕ, zero, suc, ◌<◌, ◌≤◌}
use native.Mathlib.Nat.{le_refl, le_trans, not-suc-le-zero, le_of_suc-le-suc}
use native.Mathlib.Omega.{arith}
use lib.Dec.{eqb}
use lib.ListN.{length, get_or}
use borrow.Author.Tests.{eqb-true, eqb-false}
use Rattle.paper.specs.Statements.{Kind, $c, $v, $d, $f, $e, $a, $p, Statement, none_end, Item, top, tail, closers, ended, ends}
use Rattle.paper.specs.Reader.{least}
use Rattle.paper.specs.Checks.{token}
use Rattle.paper.proofs.Tests.{split}
use Rattle.reader.specs.Rows.{stmt}
use Rattle.facts.proofs.Rise.{rise_le, rise_after, rise_before, rise_some, rise_order, math_at}
use Rattle.facts.specs.Facts.{Shaped}
use Rattle.facts.proofs.Grammar.{Whole, Items, items_none, items_open, items_close, items_state, items_le}

-- ---- statements one by one, and two by two
abbrev pub Every : (Statement → Type 0) → List Statement → Type 0
Every P l = (k : ℕ) → k < length l → P (stmt l k)

abbrev pub Pairs : (Statement → Statement → Type 0) → List Statement → Type 0
Pairs R l = (j k : ℕ) → j < k → k < length l → R (stmt l j) (stmt l k)

pub every_more : (P : Statement → Type 0) (s : Statement) (l : List Statement) → P s → Every P l → Every P (s ∷ l)
unfolding stmt
every_more P s l p f zero g = p
every_more P s l p f (suc k) g = f k (le_of_suc-le-suc g)

pub pairs_more :
    (R : Statement → Statement → Type 0) (s : Statement) (l : List Statement) → Every (R s) l → Pairs R l → Pairs R (s ∷ l)
unfolding stmt
pairs_more R s l p f j zero h g = absurd (not-suc-le-zero h)
pairs_more R s l p f zero (suc k) h g = p k (le_of_suc-le-suc g)
pairs_more R s l p f (suc j) (suc k) h g = f j k (le_of_suc-le-suc h) (le_of_suc-le-suc g)

-- ---- the d-th closer that is open at a place, none_end if there is none
unfoldable pub nth : List ℕ → ℕ → ℕ
nth l d = get_or l d none_end

top_nth : (l : List ℕ) → top l ≡ nth l 0
unfolding nth
top_nth [] = refl
top_nth (q ∷ l) = refl

nth_tail : (l : List ℕ) (d : ℕ) → nth (tail l) d ≡ nth l (suc d)
unfolding nth
nth_tail [] d = refl
nth_tail (q ∷ l) d = refl

-- at a `$}`
nth_close : (P : ℕ → Type 0) (q : ℕ) (l : List ℕ) (d : ℕ) → P q → ((e : ℕ) → P (nth l e)) → P (nth (q ∷ l) d)
unfolding nth
nth_close P q l zero a b = a
nth_close P q l (suc d) a b = b d

-- they stand after what is before the items
above : {a b : ℕ} {i : List Item} → b ≤ none_end → Items a b i → (d : ℕ) → a ≤ nth (closers i []) d
unfolding closers nth
above z (items_none h) d = le_trans h z
above {a} z (items_open {i = i} h r) d = rw (nth_tail (closers i []) d) (omega (arith, above z r (suc d)))
above {a} z (items_close {q = q} {i = i} h r) d =
    nth_close (λ n. a ≤ n) q (closers i []) d h (λ e. omega (arith, above z r e))
above z (items_state h w r) d = omega (arith, rise_le w.part.tokens, above z r d)

-- and inside the text, if there are any
below : {a b : ℕ} {i : List Item} → Items a b i → (d : ℕ) → (nth (closers i []) d ≡ none_end → ⊥) → nth (closers i []) d < b
unfolding closers nth
below (items_none h) d = λ n. absurd (n refl)
below (items_open {i = i} h r) d = rw (nth_tail (closers i []) d) (below r (suc d))
below {b = b} (items_close {q = q} {i = i} h r) d =
    nth_close (λ n. (n ≡ none_end → ⊥) → n < b) q (closers i []) d (λ n. items_le r) (λ e. below r e)
below (items_state h w r) d = below r d

-- they rise
next : {a b : ℕ} {i : List Item} → b ≤ none_end → Items a b i → (d : ℕ) → nth (closers i []) d ≤ nth (closers i []) (suc d)
unfolding closers nth
next z (items_none h) d = le_refl _
next z (items_open {i = i} h r) d =
    rw (nth_tail (closers i []) d, nth_tail (closers i []) (suc d)) (next z r (suc d))
next z (items_close h r) zero = omega (arith, above z r 0)
next z (items_close h r) (suc d) = next z r d
next z (items_state h w r) d = next z r d

rises : {a b : ℕ} {i : List Item} → b ≤ none_end → Items a b i → (d : ℕ) → nth (closers i []) 0 ≤ nth (closers i []) d
rises z x zero = le_refl _
rises z x (suc d) = omega (arith, rises z x d, next z x d)

-- ---- the statements, each with its end
-- they stand after what is before the items
from : {a b : ℕ} {i : List Item} → Items a b i → Every (λ s. a ≤ s.at) (ends i [])
unfolding ends
from (items_none h) = λ k g. absurd (not-suc-le-zero g)
from (items_open h r) = λ k g. omega (arith, from r k g)
from (items_close h r) = λ k g. omega (arith, from r k g)
from {a} (items_state {s = s} {i = i} h w r) =
    every_more (λ x. a ≤ x.at) (ended (top (closers i [])) s) (ends i []) h
    (λ k g. omega (arith, rise_le w.part.tokens, from r k g))

-- where one stands before a closer that is open before the items, it ends no later
nested :
    {a b : ℕ} {i : List Item}
    → b ≤ none_end → Items a b i
    → (d : ℕ) → Every (λ s. s.at < nth (closers i []) d → s.end ≤ nth (closers i []) d) (ends i [])
unfolding ends closers
nested z (items_none h) d = λ k g. absurd (not-suc-le-zero g)
nested z (items_open {i = i} h r) d = rw (nth_tail (closers i []) d) (nested z r (suc d))
nested z (items_close {q = q} {i = i} h r) d = λ k g.
    nth_close (λ n. (stmt (ends i []) k).at < n → (stmt (ends i []) k).end ≤ n) q (closers i []) d
    (λ l. absurd (omega (arith, from r k g)))
    (λ e. nested z r e k g)
nested z (items_state {s = s} {i = i} h w r) d =
    every_more (λ x. x.at < nth (closers i []) d → x.end ≤ nth (closers i []) d) (ended (top (closers i [])) s) (ends i [])
    (λ l. rw (top_nth (closers i [])) (rises z r d))
    (nested z r d)

-- ---- two statements
pub record Apart (s x : Statement) : Type 0 where
  pub order : s.at < x.at
  pub apart : (i : ℕ) → i < length s.math → (token s i).at < x.at
  pub inner : x.at < s.end → x.end ≤ s.end

-- a token of a whole statement stands before its bound
token_below : {c : ℕ} {s : Statement} → Whole c s → (i : ℕ) → i < length s.math → (token s i).at < c
token_below w i g =
    omega (arith, rise_some w.part.tokens i g, rise_before w.part.tokens i g)

pub all_apart : {a b : ℕ} {i : List Item} → b ≤ none_end → Items a b i → Pairs Apart (ends i [])
unfolding ends
all_apart z (items_none h) = λ j k l g. absurd (not-suc-le-zero g)
all_apart z (items_open h r) = all_apart z r
all_apart z (items_close h r) = all_apart z r
all_apart z (items_state {c = c} {s = s} {i = i} h w r) =
    pairs_more Apart (ended (top (closers i [])) s) (ends i [])
    (λ k g. record {
      order = omega (arith, rise_le w.part.tokens, from r k g);
      apart = λ j l. omega (arith, token_below w j l, from r k g);
      inner = rw (top_nth (closers i [])) (nested z r 0 k g);
    })
    (all_apart z r)

-- ---- one statement
pub least_some : (k : Kind) → 1 ≤ least k
least_some $c = omega arith
least_some $v = omega arith
least_some $d = omega arith
least_some $f = omega arith
least_some $e = omega arith
least_some $a = omega arith
least_some $p = omega arith

shape :
    (t : List ℕ) (c q : ℕ) (s : Statement)
    → length t ≤ 16777216 → c ≤ length t → Whole c s → c ≤ q → ((q ≡ none_end → ⊥) → q < length t) → Shaped t (ended q s)
shape t c q s short g w l n =
    let r = w.part.tokens in
    record {
      below = omega (arith, rise_le r);
      lives = omega (arith, rise_le r);
      last = split (eqb q none_end)
          (λ e. omega (arith, eqb-true q none_end e))
          (λ e. omega (arith, n (eqb-false q none_end e)));
      ends = n;
      some = omega (arith, least_some s.kind, w.enough);
      pair = λ e. rw e at w.enough;
      two = λ e. let x : 2 ≤ length s.math = rw e at w.enough in omega (arith, w.part.most e);
      label = w.part.label;
      no_label = w.part.no_label;
      label_bytes = w.part.label_bytes;
      after = λ i h. rise_after r i h;
      rising = λ i j h k. rise_order r i j h k;
      inside = λ i h. omega (arith, rise_before r i h);
      named = λ i h. rise_some r i h;
      bytes = λ i h. math_at s.math i w.part.bytes h;
    }

pub all_shaped :
    (t : List ℕ) {a b : ℕ} {i : List Item}
    → length t ≤ 16777216 → b ≤ length t → Items a b i → Every (Shaped t) (ends i [])
unfolding ends
all_shaped t short g (items_none h) = λ k l. absurd (not-suc-le-zero l)
all_shaped t short g (items_open h r) = all_shaped t short g r
all_shaped t short g (items_close h r) = all_shaped t short g r
all_shaped t short g (items_state {c = c} {s = s} {i = i} h w r) =
    every_more (Shaped t) (ended (top (closers i [])) s) (ends i [])
    (rw (top_nth (closers i []))
    (shape t c (nth (closers i []) 0) s short (omega (arith, items_le r)) w
    (above (omega arith) r 0)
    (λ n. omega (arith, below r 0 n))))
    (all_shaped t short g r)
