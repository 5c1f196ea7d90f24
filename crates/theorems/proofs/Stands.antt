-- Where the items that are read stand and their math tokens: where the tokens read for them do; and how much room they take.
-- The lemma R3 of the proof on paper.
use mathlib.Core.List.{List, []}
use Prim.Native.Nat.{ℕ, suc, ◌+◌, ◌≤◌}
use native.Mathlib.Omega.{arith}
use lib.ListN.{length}
use Rattle.paper.specs.Tokens.{Token}
use Rattle.paper.specs.Statements.{Item, opens, closes, states}
use Rattle.paper.specs.Reader.{Mode, start, named, math, proof}
use Rattle.paper.proofs.Sums.{total, total_append}
use Rattle.paper.proofs.Alls.{All, all_none, all_more, all_append}
use Rattle.theorems.proofs.Gives.{mode_at, weight, mode_weight, statement_weight, mode_math, Extends, no_more, one_more, Gives, quiet, opening, closing_one, stating, allow_gives}
use Rattle.theorems.proofs.Reader.{Reads, done, step}

-- ---- R3: items stand where the tokens read for them stand
abbrev pub item_at : Item → ℕ
item_at (opens p) = p
item_at (closes q) = q
item_at (states s) = s.at

-- the statement in hand, if any, stands where P says
abbrev pub InHand : (ℕ → Type 0) → Mode → Type 0
InHand P m = (z : ℕ) → P z → P (mode_at m z)

abbrev pub TokenAt : (ℕ → Type 0) → Token → Type 0
TokenAt P t = P t.at

abbrev pub ItemAt : (ℕ → Type 0) → Item → Type 0
ItemAt P x = P (item_at x)

module _ (P : ℕ → Type 0) where
  hand : (n : Mode) (y z : ℕ) → P (mode_at n y) → P z → P (mode_at n z)
  hand start y z a b = b
  hand (named t) y z a b = a
  hand (math k o l m) y z a b = a
  hand (proof o l m p) y z a b = a

  hand_step : {m n : Mode} {d e : ℕ} {t : Token} {j : List Item} → Gives m d t n e j → P t.at → InHand P m
      → InHand P n
  hand_step {n = n} {t = t} (quiet a b c) h k = λ z p. hand n t.at z (rw a (k t.at h)) p
  hand_step (opening a b) h k = λ z p. p
  hand_step (closing_one a b c) h k = λ z p. p
  hand_step (stating a b c) h k = λ z p. p

  items_step : {m n : Mode} {d e : ℕ} {t : Token} {j : List Item} → Gives m d t n e j → P t.at → InHand P m
      → All (ItemAt P) j
  items_step (quiet a b c) h k = all_none
  items_step {t = t} (opening a b) h k = all_more {x = opens t.at} h all_none
  items_step {t = t} (closing_one a b c) h k = all_more {x = closes t.at} h all_none
  items_step {t = t} (stating {s = s} a b c) h k = all_more {x = states s} (rw a (k t.at h)) all_none

  pub reads_at : {u : List Token} {m n : Mode} {d e : ℕ} {i : List Item} → Reads u m d i n e → All (TokenAt P) u
      → InHand P m → All (ItemAt P) i
  reads_at done a k = all_none
  reads_at (step {m = m} {d = d} h r) (all_more p a) k =
      let g = allow_gives m d h in
      all_append (items_step g p k) (reads_at r a (hand_step g p k))

-- ---- how much room the statements take
abbrev pub item_weight : Item → ℕ
item_weight (opens p) = 0
item_weight (closes q) = 0
item_weight (states s) = statement_weight s

abbrev pub items_weight : List Item → ℕ
items_weight i = total item_weight i

weight_step : {m n : Mode} {d e : ℕ} {t : Token} {j : List Item} → Gives m d t n e j
    → items_weight j + mode_weight n ≤ mode_weight m + suc (length t.bytes)
unfolding total
weight_step (quiet a b c) = omega arith
weight_step (opening a b) = omega arith
weight_step (closing_one a b c) = omega arith
weight_step (stating a b c) = omega arith

pub reads_weight : {u : List Token} {m n : Mode} {d e : ℕ} {i : List Item} → Reads u m d i n e
    → items_weight i + mode_weight n ≤ mode_weight m + weight u
unfolding total
reads_weight done = omega arith
reads_weight (step {m = m} {d = d} {j = j} {i = i} h r) =
    omega (arith, total_append item_weight j i, weight_step (allow_gives m d h), reads_weight r)

-- ---- what holds of the tokens read holds of the math tokens of the statements
abbrev pub item_math : Item → List Token
item_math (opens p) = []
item_math (closes q) = []
item_math (states s) = s.math

abbrev pub MathAll : (Token → Type 0) → Item → Type 0
MathAll P x = All P (item_math x)

module _ (P : Token → Type 0) where
  extends_all : {t : Token} {l m : List Token} → Extends t l m → P t → All P l → All P m
  extends_all no_more p a = a
  extends_all one_more p a = all_append a (all_more p all_none)

  math_hand : {m n : Mode} {d e : ℕ} {t : Token} {j : List Item} → Gives m d t n e j → P t → All P (mode_math m)
      → All P (mode_math n)
  math_hand (quiet a b g) p h = extends_all g p h
  math_hand (opening a b) p h = all_none
  math_hand (closing_one a b c) p h = all_none
  math_hand (stating a b c) p h = all_none

  math_step : {m n : Mode} {d e : ℕ} {t : Token} {j : List Item} → Gives m d t n e j → All P (mode_math m)
      → All (MathAll P) j
  math_step (quiet a b c) h = all_none
  math_step {t = t} (opening a b) h = all_more {x = opens t.at} all_none all_none
  math_step {t = t} (closing_one a b c) h = all_more {x = closes t.at} all_none all_none
  math_step (stating {s = s} a b c) h = all_more {x = states s} (rw c h) all_none

  pub reads_math : {u : List Token} {m n : Mode} {d e : ℕ} {i : List Item} → Reads u m d i n e → All P u
      → All P (mode_math m) → All (MathAll P) i
  reads_math done a h = all_none
  reads_math (step {m = m} {d = d} k r) (all_more p a) h =
      let g = allow_gives m d k in
      all_append (math_step g h) (reads_math r a (math_hand g p h))
