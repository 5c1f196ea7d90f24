-- The reader: what a run over some tokens reads, as a relation that can be cut and joined; and its depth.
-- The lemmas R1, R4 and R6 of the proof on paper.
use mathlib.Core.Path.{◌≡◌, refl, sym, ◌∙◌}
use mathlib.Core.List.{List, [], ◌∷◌, ◌++◌, append_assoc, append-nil}
use Prim.Native.Nat.{ℕ, suc, ◌+◌}
use native.Mathlib.Omega.{arith}
use Rattle.paper.specs.Tokens.{Token}
use Rattle.paper.specs.Statements.{Statement, Item, opens, closes, states}
use Rattle.paper.specs.Reader.{Mode, Step, go, stop, allow, with_items, many}
use Rattle.theorems.proofs.Gives.{Gives, quiet, opening, closing_one, stating, allow_gives}

-- ---- R1: a run over tokens from a mode and depth, with the items that it adds
pub data Reads : List Token → Mode → ℕ → List Item → Mode → ℕ → Type 0 where
  done : {m : Mode} {d : ℕ} → Reads [] m d [] m d
  step : {t : Token} {u : List Token} {m n o : Mode} {d e f : ℕ} {j i : List Item} → allow m d t ≡ go n e j
      → Reads u n e i o f → Reads (t ∷ u) m d (j ++ i) o f

by_step : {P : Type 0} (z : Step) → ((m : Mode) (d : ℕ) (j : List Item) → z ≡ go m d j → P)
    → ((o : ℕ) → z ≡ stop o → P) → P
by_step (go m d j) f g = f m d j refl
by_step (stop o) f g = g o refl

many_stop : (u : List Token) (o : ℕ) → many u (stop o) ≡ stop o
unfolding many
many_stop [] o = refl
many_stop (t ∷ u) o = refl

pub many_append : (u v : List Token) (z : Step) → many (u ++ v) z ≡ many v (many u z)
unfolding many
many_append [] v z = refl
many_append (t ∷ u) v (go m d i) = many_append u v (with_items i (allow m d t))
many_append (t ∷ u) v (stop o) = sym (many_stop v o)

pub record Run (u : List Token) (m : Mode) (d : ℕ) (s k : List Item) (n : Mode) (e : ℕ) : Type 0 where
  pub added : List Item
  pub sum : k ≡ s ++ added
  pub reads : Reads u m d added n e

pub many_reads : (u : List Token) (m : Mode) (d : ℕ) (s : List Item) (n : Mode) (e : ℕ) (k : List Item)
    → many u (go m d s) ≡ go n e k → Run u m d s k n e
unfolding many
many_reads [] m d s n e k h =
    let a : m ≡ n = cc in
    let b : d ≡ e = cc in
    let c : s ≡ k = cc in
    record { added = []; sum = sym c ∙ sym (append-nil s); reads = rw (a, b) done }
many_reads (t ∷ u) m d s n e k h =
    by_step (allow m d t)
    (λ m' d' j a.
    let r = many_reads u m' d' (s ++ j) n e k (rw a at h) in
    record { added = j ++ r.added; sum = r.sum ∙ append_assoc s j r.added; reads = step a r.reads })
    (λ o a.
    let z : stop o ≡ go n e k = sym (many_stop u o) ∙ (rw a at h) in
    let y : ◌≡◌ {A = ℕ} 0 1 = cc in
    absurd (omega arith))

pub reads_many : {u : List Token} {m n : Mode} {d e : ℕ} {i : List Item} → Reads u m d i n e → (s : List Item)
    → many u (go m d s) ≡ go n e (s ++ i)
unfolding many
reads_many done s = rw append-nil
reads_many (step {n = n} {d = d} {e = e} {j = j} {i = i} h r) s =
    rw h (reads_many r (s ++ j) ∙ rw (append_assoc s j i))

pub reads_append : {u v : List Token} {m n o : Mode} {d e f : ℕ} {i j : List Item} → Reads u m d i n e
    → Reads v n e j o f → Reads (u ++ v) m d (i ++ j) o f
reads_append done b = b
reads_append {j = k} (step {j = j} {i = i} h r) b = rw (append_assoc j i k) (step h (reads_append r b))

-- ---- R4, R6: the depth of items, never below zero
pub data Level : List Item → ℕ → ℕ → Type 0 where
  flat : {d : ℕ} → Level [] d d
  opened : {p d e : ℕ} {i : List Item} → Level i (suc d) e → Level (opens p ∷ i) d e
  shut_one : {q d e : ℕ} {i : List Item} → Level i d e → Level (closes q ∷ i) (suc d) e
  stated : {s : Statement} {d e : ℕ} {i : List Item} → Level i d e → Level (states s ∷ i) d e

level_step : {m n : Mode} {d e f : ℕ} {t : Token} {j i : List Item} → Gives m d t n e j → Level i e f
    → Level (j ++ i) d f
level_step (quiet a b c) l = l
level_step (opening a b) l = opened l
level_step (closing_one a b c) l = rw c (shut_one l)
level_step (stating a b c) l = stated l

pub reads_level : {u : List Token} {m n : Mode} {d e : ℕ} {i : List Item} → Reads u m d i n e → Level i d e
reads_level done = flat
reads_level (step {m = m} {d = d} h r) = level_step (allow_gives m d h) (reads_level r)

-- the same items from another depth come to a depth that differs as much
pub level_shift : {i : List Item} {a b c e : ℕ} (k : ℕ) → Level i a b → c ≡ a + k → Level i c e → e ≡ b + k
level_shift k flat h flat = h
level_shift k (opened x) h (opened y) = level_shift k x (omega arith) y
level_shift k (shut_one x) h (shut_one y) = level_shift k x (omega arith) y
level_shift k (stated x) h (stated y) = level_shift k x h y
