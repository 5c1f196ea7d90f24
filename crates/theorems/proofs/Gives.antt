-- What one token does that the grammar allows: to the statement in hand, its math tokens and its room, and the items that it ends.
-- By the modes of the reader; all that is said of a run over tokens goes by these cases.
use mathlib.Core.Path.{◌≡◌, refl}
use mathlib.Core.Bool.{true}
use mathlib.Core.List.{List, [], ◌∷◌, ◌++◌}
use mathlib.Core.Option.{Option, none, some}
use Prim.Native.Nat.{ℕ, zero, suc, ◌+◌, ◌≤◌}
use native.Mathlib.Omega.{arith}
use lib.Dec.{leb}
use lib.ListN.{length}
use Rattle.paper.specs.Base.{and}
use Rattle.paper.specs.Tokens.{Token, label_token, math_token, key}
use Rattle.paper.specs.Statements.{Kind, $c, $v, $d, $f, $e, $a, $p, Statement, Item, opens, closes, states}
use Rattle.paper.specs.Reader.{Mode, start, named, math, proof, plain_kind, label_kind, room, least, closing, go, stop, shut, begin, keyword, closed, allow}
use Rattle.paper.proofs.Tests.{split}
use Rattle.paper.proofs.Sums.{total, total_append}

-- the offset of the statement in hand, or z where there is none
abbrev pub mode_at : Mode → ℕ → ℕ
mode_at start z = z
mode_at (named t) z = t.at
mode_at (math k o n m) z = o
mode_at (proof o n m p) z = o

-- the room that tokens take, with a byte of white space for each
abbrev pub token_weight : Token → ℕ
token_weight t = suc (length t.bytes)

abbrev pub weight : List Token → ℕ
weight l = total token_weight l

abbrev pub mode_weight : Mode → ℕ
mode_weight start = 0
mode_weight (named t) = suc (length t.bytes)
mode_weight (math k o n m) = length n + weight m
mode_weight (proof o n m p) = length n + weight m

abbrev pub statement_weight : Statement → ℕ
statement_weight s = suc (length s.label + weight s.math)

-- the math tokens in hand, and whether the token t is one more of them
abbrev pub mode_math : Mode → List Token
mode_math start = []
mode_math (named t) = []
mode_math (math k o n m) = m
mode_math (proof o n m p) = m

pub data Extends (t : Token) : List Token → List Token → Type 0 where
  no_more : {l : List Token} → Extends t l l
  one_more : {l : List Token} → Extends t l (l ++ (t ∷ []))

-- nothing yet; a `${`; a `$}`; the end of a statement
pub data Gives (m : Mode) (d : ℕ) (t : Token) : Mode → ℕ → List Item → Type 0 where
  quiet : {n : Mode} → mode_at n t.at ≡ mode_at m t.at → mode_weight n ≤ mode_weight m + suc (length t.bytes)
      → Extends t (mode_math m) (mode_math n) → Gives m d t n d []
  opening : m ≡ start → key 123 t ≡ true → Gives m d t start (suc d) (opens t.at ∷ [])
  closing_one : {e : ℕ} → m ≡ start → key 125 t ≡ true → d ≡ suc e → Gives m d t start e (closes t.at ∷ [])
  stating : {s : Statement} → s.at ≡ mode_at m t.at → statement_weight s ≤ mode_weight m + suc (length t.bytes)
      → s.math ≡ mode_math m → Gives m d t start d (states s ∷ [])

module _ {m : Mode} {d : ℕ} {t : Token} {n : Mode} {e : ℕ} {j : List Item} where
  same : {a : Mode} {b : ℕ} {c : List Item} → Gives m d t a b c → go a b c ≡ go n e j → Gives m d t n e j
  same {a} {b} {c} g h =
      let x : a ≡ n = cc in
      let y : b ≡ e = cc in
      let z : c ≡ j = cc in
      rw (← x, ← y, ← z) g

  never : {o : ℕ} → stop o ≡ go n e j → Gives m d t n e j
  never h = let y : ◌≡◌ {A = ℕ} 0 1 = cc in absurd (omega arith)

module _ {t : Token} {n : Mode} {e : ℕ} {j : List Item} where
  shut_gives : (d : ℕ) → key 125 t ≡ true → shut d t ≡ go n e j → Gives start d t n e j
  shut_gives zero k h = never h
  shut_gives (suc d) k h = same (closing_one refl k refl) h

  begin_gives : (k : Option Kind) (d : ℕ) → begin k d t ≡ go n e j → Gives start d t n e j
  unfolding total
  begin_gives (some k) d h = same (quiet {n = math k t.at [] []} refl (omega arith) no_more) h
  begin_gives none d h =
      split (label_token t)
      (λ l. same (quiet {n = named t} refl (omega arith) no_more) (rw l at h))
      (λ l. never {o = t.at} (rw l at h))

  keyword_gives : (k : Option Kind) (d : ℕ) (s : Token) → keyword k d s t ≡ go n e j → Gives (named s) d t n e j
  unfolding total
  keyword_gives (some k) d s h = same (quiet {n = math k s.at s.bytes []} refl (omega arith) no_more) h
  keyword_gives none d s h = never h

  closed_gives : (k : Kind) (d o : ℕ) (l : List ℕ) (m : List Token) → closed k d o l m ≡ go n e j
      → Gives (math k o l m) d t n e j
  closed_gives $c d o l m h = same (stating refl (omega arith) refl) h
  closed_gives $v d o l m h = same (stating refl (omega arith) refl) h
  closed_gives $d d o l m h = same (stating refl (omega arith) refl) h
  closed_gives $f d o l m h = same (stating refl (omega arith) refl) h
  closed_gives $e d o l m h = same (stating refl (omega arith) refl) h
  closed_gives $a d o l m h = same (stating refl (omega arith) refl) h
  closed_gives $p d o l m h = same (quiet {n = proof o l m []} refl (omega arith) no_more) h

  pub allow_gives : (m : Mode) (d : ℕ) → allow m d t ≡ go n e j → Gives m d t n e j
  unfolding allow total
  allow_gives start d h =
      split (key 123 t)
      (λ k. same (opening refl k) (rw k at h))
      (λ k. split (key 125 t)
      (λ c. shut_gives d c (rw (k, c) at h))
      (λ c. begin_gives (plain_kind t) d (rw (k, c) at h)))
  allow_gives (named s) d h = keyword_gives (label_kind t) d s h
  allow_gives (math k o l m) d h =
      split (and (math_token t) (room k (length m)))
      (λ a. same (quiet {n = math k o l (m ++ (t ∷ []))} refl (omega (arith, total_append token_weight m (t ∷ []))) one_more) (rw a at h))
      (λ a. split (and (key (closing k) t) (leb (least k) (length m)))
      (λ c. closed_gives k d o l m (rw (a, c) at h))
      (λ c. never {o = t.at} (rw (a, c) at h)))
  allow_gives (proof o l m p) d h =
      split (math_token t)
      (λ a. same (quiet {n = proof o l m (p ++ (t ∷ []))} refl (omega arith) no_more) (rw a at h))
      (λ a. split (and (key 46 t) (leb 1 (length p)))
      (λ c. same (stating refl (omega arith) refl) (rw (a, c) at h))
      (λ c. never {o = t.at} (rw (a, c) at h)))
