-- A run over tokens cut at a `${` or `$}`, and what the token at the cut is.
-- The lemmas R2 and R5 of the proof on paper.
use mathlib.Core.Path.{◌≡◌, refl, ap}
use mathlib.Core.Bool.{true}
use mathlib.Core.List.{List, [], ◌∷◌, ◌++◌, nil≢cons}
use Prim.Native.Nat.{ℕ, suc}
use native.Mathlib.Omega.{arith}
use Rattle.paper.specs.Tokens.{Token, key}
use Rattle.paper.specs.Statements.{Item, opens, closes, states}
use Rattle.paper.specs.Reader.{Mode, start, go, allow}
use Rattle.paper.proofs.Searches.{not_nil}
use Rattle.theorems.proofs.Gives.{Gives, quiet, opening, closing_one, stating, allow_gives}
use Rattle.theorems.proofs.Reader.{Reads, done, step}

-- ---- R2, R5: cut at a `${` or `$}`, which is read between statements only
pub record Cut (u : List Token) (m : Mode) (d : ℕ) (x : List Item) (z : Item) (y : List Item) (n : Mode) (e : ℕ) : Type 0 where
  pub before : List Token
  pub brace : Token
  pub behind : List Token
  pub above : ℕ
  pub below : ℕ
  pub tokens : u ≡ before ++ (brace ∷ behind)
  pub left : Reads before m d x start above
  pub here : allow start above brace ≡ go start below (z ∷ [])
  pub right : Reads behind start below y n e

abbrev pub Brace : Item → Type 0
Brace (opens p) = Unit
Brace (closes q) = Unit
Brace (states s) = ⊥

module _ {t : Token} {u : List Token} {m n o : Mode} {d e f : ℕ} {j : List Item} {z : Item} {y : List Item} (h : allow m d t ≡ go n e j) where
  extend : {x : List Item} → Cut u n e x z y o f → Cut (t ∷ u) m d (j ++ x) z y o f
  extend c =
      record {
        before = t ∷ c.before;
        brace = c.brace;
        behind = c.behind;
        above = c.above;
        below = c.below;
        tokens = ap (λ (r : List Token). t ∷ r) c.tokens;
        left = step h c.left;
        here = c.here;
        right = c.right;
      }

  at_brace : {i : List Item} → m ≡ start → n ≡ start → Reads u n e i o f → j ≡ z ∷ [] → i ≡ y
      → Cut (t ∷ u) m d [] z y o f
  at_brace a b r k l =
      record {
        before = [];
        brace = t;
        behind = u;
        above = d;
        below = e;
        tokens = refl;
        left = rw a done;
        here = rw (a, b, k) at h;
        right = rw (← l, ← b) r;
      }

-- by what the token does
cut_by : {t : Token} {u : List Token} {m n o : Mode} {d e f : ℕ} {j i : List Item} (x : List Item) (z : Item) (y : List Item)
    → Brace z → Gives m d t n e j → allow m d t ≡ go n e j → Reads u n e i o f
    → ((v : List Item) → i ≡ v ++ (z ∷ y) → Cut u n e v z y o f) → j ++ i ≡ x ++ (z ∷ y) → Cut (t ∷ u) m d x z y o f
cut_by x z y b (quiet p w k) h r f q = extend h (f x q)
cut_by [] z y b (opening p w) h r f q = at_brace h p refl r (cc) (cc)
cut_by {t} {i = i} (x ∷ v) z y b (opening p w) h r f q =
    let a : opens t.at ≡ x = cc in
    let c : i ≡ v ++ (z ∷ y) = cc in
    rw (← a) (extend h (f v c))
cut_by [] z y b (closing_one p w l) h r f q = at_brace h p refl r (cc) (cc)
cut_by {t} {i = i} (x ∷ v) z y b (closing_one p w l) h r f q =
    let a : closes t.at ≡ x = cc in
    let c : i ≡ v ++ (z ∷ y) = cc in
    rw (← a) (extend h (f v c))
cut_by [] z y b (stating {s = s} p w k) h r f q =
    let a : states s ≡ z = cc in
    absurd (rw (← a) at b)
cut_by {i = i} (x ∷ v) z y b (stating {s = s} p w k) h r f q =
    let a : states s ≡ x = cc in
    let c : i ≡ v ++ (z ∷ y) = cc in
    rw (← a) (extend h (f v c))

pub reads_cut : {u : List Token} {m n : Mode} {d e : ℕ} {i : List Item} (x : List Item) (z : Item) (y : List Item)
    → Brace z → Reads u m d i n e → i ≡ x ++ (z ∷ y) → Cut u m d x z y n e
reads_cut x z y b done q = absurd (not_nil x z y q)
reads_cut x z y b (step {m = m} {d = d} h r) q =
    cut_by x z y b (allow_gives m d h) h r (λ v k. reads_cut v z y b r k) q

-- what the token at the cut is
pub record Opened (t : Token) (a b p : ℕ) : Type 0 where
  pub key_is : key 123 t ≡ true
  pub stands : t.at ≡ p
  pub deeper : b ≡ suc a

pub record Closed (t : Token) (a b q : ℕ) : Type 0 where
  pub key_is : key 125 t ≡ true
  pub stands : t.at ≡ q
  pub deeper : a ≡ suc b

opened_by : {t : Token} {n : Mode} {a b p : ℕ} {j : List Item} → Gives start a t n b j → j ≡ opens p ∷ []
    → Opened t a b p
opened_by (quiet x y z) e = absurd (nil≢cons e)
opened_by (opening x y) e = record { key_is = y; stands = cc; deeper = refl }
opened_by (closing_one x y z) e = let c : ◌≡◌ {A = ℕ} 0 1 = cc in absurd (omega arith)
opened_by (stating x y z) e = let c : ◌≡◌ {A = ℕ} 0 1 = cc in absurd (omega arith)

closed_by : {t : Token} {n : Mode} {a b q : ℕ} {j : List Item} → Gives start a t n b j → j ≡ closes q ∷ []
    → Closed t a b q
closed_by (quiet x y z) e = absurd (nil≢cons e)
closed_by (opening x y) e = let c : ◌≡◌ {A = ℕ} 0 1 = cc in absurd (omega arith)
closed_by (closing_one x y z) e = record { key_is = y; stands = cc; deeper = z }
closed_by (stating x y z) e = let c : ◌≡◌ {A = ℕ} 0 1 = cc in absurd (omega arith)

pub brace_opened : (t : Token) (a b p : ℕ) → allow start a t ≡ go start b (opens p ∷ []) → Opened t a b p
brace_opened t a b p h = opened_by (allow_gives start a h) refl

pub brace_closed : (t : Token) (a b q : ℕ) → allow start a t ≡ go start b (closes q ∷ []) → Closed t a b q
brace_closed t a b q h = closed_by (allow_gives start a h) refl
