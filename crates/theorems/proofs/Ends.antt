-- Ends: closers and ends of one part after another; a group leaves the closers after it alone, and all inside it ends by its `$}`.
-- The lemmas E1 to E4 of the proof on paper.
use mathlib.Core.Path.{◌≡◌, refl, ap, ◌∙◌}
use mathlib.Core.List.{List, [], ◌∷◌, ◌++◌, nil≢cons}
use mathlib.Core.Option.{some}
use Prim.Native.Nat.{ℕ, zero, suc, ◌<◌, ◌≤◌}
use native.Mathlib.Omega.{arith}
use lib.Dec.{eqb}
use lib.ListN.{length, drop}
use borrow.Author.Tests.{eqb-true}
use Rattle.paper.specs.Statements.{Statement, Item, opens, closes, states, top, tail, onto, closers, ended, with_end, ends}
use Rattle.paper.proofs.Tests.{split}
use Rattle.theorems.specs.Groups.{first, closer}
use Rattle.paper.proofs.Alls.{All, all_none, all_more, all_of}
use Rattle.theorems.proofs.Reader.{Level, flat, opened, shut_one, stated}
use Rattle.theorems.proofs.Stands.{ItemAt}

-- ---- E1
pub closers_append : (i j : List Item) (l : List ℕ) → closers (i ++ j) l ≡ closers i (closers j l)
unfolding closers
closers_append [] j l = refl
closers_append (x ∷ i) j l = ap (onto x) (closers_append i j l)

with_end_append : (x : Item) (q : ℕ) (r s : List Statement) → with_end x q (r ++ s) ≡ with_end x q r ++ s
with_end_append (opens p) q r s = refl
with_end_append (closes p) q r s = refl
with_end_append (states p) q r s = refl

pub ends_append : (i j : List Item) (l : List ℕ) → ends (i ++ j) l ≡ ends i (closers j l) ++ ends j l
unfolding ends
ends_append [] j l = refl
ends_append (x ∷ i) j l =
    rw (closers_append i j l, ends_append i j l)
    (with_end_append x (top (closers i (closers j l))) (ends i (closers j l)) (ends j l))

-- what holds of items holds of their statements, whatever their ends
pub ends_all : {Q : Item → Type 0} {R : Statement → Type 0} → ((s : Statement) (q : ℕ) → Q (states s) → R (ended q s))
    → {i : List Item} (l : List ℕ) → All Q i → All R (ends i l)
unfolding ends
ends_all f l all_none = all_none
ends_all f l (all_more {x = opens p} h a) = ends_all f l a
ends_all f l (all_more {x = closes p} h a) = ends_all f l a
ends_all f l (all_more {x = states s} {l = i} h a) =
    all_more {x = ended (top (closers i l)) s} (f s (top (closers i l)) h) (ends_all f l a)

pub ends_at : (P : ℕ → Type 0) {i : List Item} (l : List ℕ) → All (ItemAt P) i → All (λ s. P s.at) (ends i l)
ends_at P l a = ends_all (λ s q h. h) l a

-- ---- the items of a group: from its `${` to the `$}` that closes it
record Own (r : List Item) (k q : ℕ) : Type 0 where
  body : List Item
  rest : List Item
  items : r ≡ body ++ (closes q ∷ rest)
  level : Level body k 0

drop_nil : (k q : ℕ) (l : List ℕ) → drop k [] ≡ q ∷ l → ⊥
drop_nil zero q l e = nil≢cons e
drop_nil (suc k) q l e = nil≢cons e

drop_tail : (l : List ℕ) (k : ℕ) → drop (suc k) l ≡ drop k (tail l)
drop_tail [] zero = refl
drop_tail [] (suc k) = refl
drop_tail (x ∷ l) k = refl

-- q is the k-th of the closers
own_from : (r : List Item) (k q : ℕ) (l : List ℕ) → drop k (closers r []) ≡ q ∷ l → Own r k q
unfolding closers
own_from [] k q l e = absurd (drop_nil k q l e)
own_from (opens p ∷ r) k q l e =
    let o = own_from r (suc k) q l (drop_tail (closers r []) k ∙ e) in
    record {
      body = opens p ∷ o.body;
      rest = o.rest;
      items = ap (λ (x : List Item). opens p ∷ x) o.items;
      level = opened o.level;
    }
own_from (closes p ∷ r) zero q l e =
    let a : p ≡ q = cc in
    record { body = []; rest = r; items = rw a; level = flat }
own_from (closes p ∷ r) (suc k) q l e =
    let o = own_from r k q l e in
    record {
      body = closes p ∷ o.body;
      rest = o.rest;
      items = ap (λ (x : List Item). closes p ∷ x) o.items;
      level = shut_one o.level;
    }
own_from (states s ∷ r) k q l e =
    let o = own_from r k q l e in
    record {
      body = states s ∷ o.body;
      rest = o.rest;
      items = ap (λ (x : List Item). states s ∷ x) o.items;
      level = stated o.level;
    }

pub record Owned (i : List Item) (p q : ℕ) : Type 0 where
  pub front : List Item
  pub body : List Item
  pub back : List Item
  pub items : i ≡ front ++ (opens p ∷ (body ++ (closes q ∷ back)))
  pub level : Level body 0 0

owned_by : (l : List ℕ) (i : List Item) (p q : ℕ) → closers i [] ≡ l → first l ≡ some q → Owned (opens p ∷ i) p q
owned_by [] i p q e f = let c : ◌≡◌ {A = ℕ} 0 1 = cc in absurd (omega arith)
owned_by (r ∷ l) i p q e f =
    let a : r ≡ q = cc in
    let o = own_from i 0 q l (rw a at e) in
    record {
      front = [];
      body = o.body;
      back = o.rest;
      items = ap (λ (x : List Item). opens p ∷ x) o.items;
      level = o.level;
    }

owned_later : {i : List Item} {p q : ℕ} (x : Item) → Owned i p q → Owned (x ∷ i) p q
owned_later x o =
    record {
      front = x ∷ o.front;
      body = o.body;
      back = o.back;
      items = ap (λ (r : List Item). x ∷ r) o.items;
      level = o.level;
    }

pub owned : (i : List Item) (p q : ℕ) → closer i p ≡ some q → Owned i p q
unfolding closer
owned [] p q e = let c : ◌≡◌ {A = ℕ} 0 1 = cc in absurd (omega arith)
owned (opens o ∷ i) p q e =
    split (eqb o p)
    (λ k.
    let a : o ≡ p = eqb-true o p k in
    rw a (owned_by (closers i []) i p q refl (rw k at e)))
    (λ k. owned_later (opens o) (owned i p q (rw k at e)))
owned (closes o ∷ i) p q e = owned_later (closes o) (owned i p q e)
owned (states s ∷ i) p q e = owned_later (states s) (owned i p q e)

-- ---- E2, E3: before items that close what they open stand the closers that stood behind them, and as many more as they close
pub record Above (P : ℕ → Type 0) (i : List Item) (d : ℕ) (l : List ℕ) : Type 0 where
  pub more : List ℕ
  pub are : closers i l ≡ more ++ l
  pub count : length more ≡ d
  pub low : All P more

module _ {P : ℕ → Type 0} (l : List ℕ) where
  pop : {c : List ℕ} {d : ℕ} (m : List ℕ) → c ≡ m ++ l → length m ≡ suc d → All P m
      → (k : List ℕ) × (tail c ≡ k ++ l) × (length k ≡ d) × All P k
  pop [] e h a = absurd (omega arith)
  pop (x ∷ m) e h (all_more b a) = (m, ap tail e, omega arith, a)

  above : {i : List Item} {d : ℕ} → Level i d 0 → All (ItemAt P) i → Above P i d l
  unfolding closers
  above flat all_none = record { more = []; are = refl; count = refl; low = all_none }
  above (opened v) (all_more h a) =
      let r = above v a in
      let k = pop r.more r.are r.count r.low in
      record { more = k.0; are = k.1; count = k.2; low = k.3 }
  above (shut_one {q = o} v) (all_more h a) =
      let r = above v a in
      record {
        more = o ∷ r.more;
        are = ap (λ (x : List ℕ). o ∷ x) r.are;
        count = omega (arith, r.count);
        low = all_more h r.low;
      }
  above (stated v) (all_more h a) =
      let r = above v a in
      record { more = r.more; are = r.are; count = r.count; low = r.low }

none_more : {c l : List ℕ} (m : List ℕ) → c ≡ m ++ l → length m ≡ 0 → c ≡ l
none_more [] e h = e
none_more (x ∷ m) e h = absurd (omega arith)

-- what closes all that it opens leaves the closers after it alone
pub neutral : {i : List Item} (l : List ℕ) → Level i 0 0 → closers i l ≡ l
neutral {i} l v =
    let r = above {P = λ n. Unit} l v (all_of i (λ x. tt)) in
    none_more r.more r.are r.count

-- ---- E4: all inside ends by q
top_low : (q : ℕ) (l m : List ℕ) → All (λ n. n < q) m → top (m ++ (q ∷ l)) ≤ q
top_low q l [] all_none = omega arith
top_low q l (x ∷ m) (all_more h a) = omega arith

pub ends_low : {i : List Item} {d : ℕ} (q : ℕ) (l : List ℕ) → Level i d 0 → All (ItemAt (λ n. n < q)) i
    → All (λ s. s.end ≤ q) (ends i (q ∷ l))
unfolding ends
ends_low q l flat all_none = all_none
ends_low q l (opened v) (all_more h a) = ends_low q l v a
ends_low q l (shut_one v) (all_more h a) = ends_low q l v a
ends_low q l (stated {s = s} {i = i} v) (all_more h a) =
    let r = above {P = λ n. n < q} (q ∷ l) v a in
    all_more {x = ended (top (closers i (q ∷ l))) s} (rw r.are (top_low q l r.more r.low)) (ends_low q l v a)
