-- Lists of rows: what holds of all or of one of them, by the test whether a row is among them; rows that rise; two filters.
-- Assumes nothing.
use mathlib.Core.Path.{◌≡◌, refl, sym, ◌∙◌}
use mathlib.Core.Bool.{Bool, true}
use mathlib.Core.List.{List, [], ◌∷◌}
use Prim.Native.Nat.{ℕ, zero, suc, ◌<◌}
use native.Mathlib.Omega.{arith}
use lib.Dec.{eqb}
use lib.ListN.{length, get_or}
use borrow.Author.Tests.{eqb-true, eq-eqb}
use Rattle.paper.specs.Base.{any, keep}
use Rattle.paper.proofs.Tests.{split, clash}
use Rattle.paper.proofs.Alls.{All, all_none, all_more, Two, two_none, two_more, Any, any_here, any_later}
use Rattle.forms.specs.HypRows.{among}
use Rattle.frames.proofs.Scanned.{all_at}

pub all_among : {P : ℕ → Type 0} {h : List ℕ} → All P h → (r : ℕ) → among r h ≡ true → P r
unfolding among any
all_among all_none r i = absurd (clash (sym i))
all_among {P = P} (all_more {x = x} p a) r i =
    split (eqb r x)
    (λ q. let e : x ≡ r = sym (eqb-true r x q) in rw e at p)
    (λ q. all_among a r (rw q at i))

pub record Found (P : ℕ → Type 0) (h : List ℕ) : Type 0 where
  pub row : ℕ
  pub inside : among row h ≡ true
  pub holds : P row

pub any_found : {P : ℕ → Type 0} {h : List ℕ} → Any P h → Found P h
unfolding among any
any_found (any_here {x = x} p) = record { row = x; inside = rw (eq-eqb x x refl); holds = p }
any_found (any_later {x = x} r) =
    let f = any_found r in
    record {
      row = f.row;
      inside = split (eqb f.row x) (λ q. rw q) (λ q. rw q f.inside);
      holds = f.holds;
    }

-- two rows among them are one row, or the relation holds of them in their order
pub data Apart (R : ℕ → ℕ → Type 0) (r s : ℕ) : Type 0 where
  one : r ≡ s → Apart R r s
  earlier : R r s → Apart R r s
  later : R s r → Apart R r s

pub two_among : {R : ℕ → ℕ → Type 0} {h : List ℕ} → Two R h → (r s : ℕ) → among r h ≡ true → among s h ≡ true → Apart R r s
unfolding among any
two_among two_none r s i j = absurd (clash (sym i))
two_among {R = R} (two_more {x = x} p t) r s i j =
    split (eqb r x)
    (λ q. let e : x ≡ r = sym (eqb-true r x q) in
    split (eqb s x)
    (λ z. one (eqb-true r x q ∙ sym (eqb-true s x z)))
    (λ z. earlier (rw e at (all_among p s (rw z at j)))))
    (λ q. split (eqb s x)
    (λ z. let e : x ≡ s = sym (eqb-true s x z) in later (rw e at (all_among p r (rw q at i))))
    (λ z. two_among t r s (rw q at i) (rw z at j)))

-- ---- by place
pub rises : {h : List ℕ} → Two (λ r s. r < s) h → (i j : ℕ) → i < j → j < length h → get_or h i 0 < get_or h j 0
rises two_none i j g k = absurd (omega arith)
rises (two_more p t) i zero g k = absurd (omega arith)
rises (two_more p t) zero (suc j) g k = all_at p j (omega arith)
rises (two_more p t) (suc i) (suc j) g k = rises t i j (omega arith) (omega arith)

-- ---- two filters, in either order
pub keep_swap : (p q : ℕ → Bool) (h : List ℕ) → keep p (keep q h) ≡ keep q (keep p h)
unfolding keep
keep_swap p q [] = refl
keep_swap p q (x ∷ h) =
    let i = keep_swap p q h in
    split (p x)
    (λ a. split (q x) (λ b. rw (a, b, a, i)) (λ b. rw (a, b, i)))
    (λ a. split (q x) (λ b. rw (a, b, a, i)) (λ b. rw (a, b, i)))
