-- Tokens stand in the order of the text, each after the one before it, and none is empty.
-- Taking comments out only leaves some of them out.
use mathlib.Core.Path.{◌≡◌}
use mathlib.Core.Bool.{true, false}
use mathlib.Core.List.{List, [], ◌∷◌, ◌++◌}
use Prim.Native.Nat.{ℕ, zero, suc, ◌+◌, ◌<◌, ◌≤◌}
use native.Mathlib.Nat.{le_refl, le_trans, not-suc-le-zero, le_of_suc-le-suc}
use native.Mathlib.Omega.{arith}
use lib.ListN.{length, get_or}
use Rattle.paper.specs.Base.{all}
use Rattle.paper.specs.Bytes.{white, math_byte}
use Rattle.paper.specs.Tokens.{Token, put, run, toks, tokens, key, math_token}
use Rattle.paper.specs.Comments.{Place, outside, inside, next, marked, shown, visible}
use Rattle.paper.specs.Checks.{no_token}
use Rattle.paper.proofs.Tests.{split}

-- from offset a up to offset b
pub data Rise : ℕ → ℕ → List Token → Type 0 where
  rise_none : {a b : ℕ} → a ≤ b → Rise a b []
  rise_more :
      {a b : ℕ} {x : Token} {l : List Token}
      → a ≤ x.at → 0 < length x.bytes → Rise (x.at + length x.bytes) b l → Rise a b (x ∷ l)

pub rise_le : {a b : ℕ} {l : List Token} → Rise a b l → a ≤ b
rise_le (rise_none h) = h
rise_le (rise_more g n r) = omega (arith, rise_le r)

pub rise_from : {a b c : ℕ} {l : List Token} → c ≤ a → Rise a b l → Rise c b l
rise_from g (rise_none h) = rise_none (le_trans g h)
rise_from g (rise_more h n r) = rise_more (le_trans g h) n r

pub rise_to : {a b c : ℕ} {l : List Token} → b ≤ c → Rise a b l → Rise a c l
rise_to g (rise_none h) = rise_none (le_trans h g)
rise_to g (rise_more h n r) = rise_more h n (rise_to g r)

pub rise_snoc :
    {a b : ℕ} {l : List Token} (x : Token)
    → Rise a b l → b ≤ x.at → 0 < length x.bytes → Rise a (x.at + length x.bytes) (l ++ (x ∷ []))
rise_snoc x (rise_none h) g n = rise_more (le_trans h g) n (rise_none (le_refl _))
rise_snoc x (rise_more h m r) g n = rise_more h m (rise_snoc x r g n)

-- ---- the tokens of a text
put_rise : (h : List ℕ) {o p b : ℕ} {l : List Token} → o ≤ p → Rise (p + length h) b l → Rise o b (put p h l)
put_rise [] g r = rise_from (omega arith) r
put_rise (c ∷ h) g r = let n : 0 < length (c ∷ h) = omega arith in rise_more g n r

run_rise : (l : List ℕ) (o b : ℕ) → o + length l ≤ b → Rise (o + length (run l o).head) b (run l o).rest
unfolding run
run_rise [] o b g = rise_none g
run_rise (c ∷ l) o b g =
    let r = run_rise l (suc o) b (omega arith) in
    split (white c)
    (λ e. rw e (put_rise (run l (suc o)).head (omega arith) r))
    (λ e. rw e (rise_from (omega arith) r))

pub tokens_rise : (t : List ℕ) → Rise 0 (length t) (tokens t)
unfolding tokens toks
tokens_rise t = put_rise (run t 0).head (le_refl _) (run_rise t 0 (length t) (omega arith))

-- ---- without comments
shown_rise :
    (p : Place) (x : Token) {a b : ℕ} {l : List Token}
    → a ≤ x.at → 0 < length x.bytes → Rise (x.at + length x.bytes) b l → Rise a b (shown p x ++ l)
shown_rise outside x g n r =
    split (key 40 x) (λ e. rw e (rise_from (omega arith) r)) (λ e. rw e (rise_more g n r))
shown_rise (inside o) x g n r =
    split (marked x) (λ e. rw e (rise_more g n r)) (λ e. rw e (rise_from (omega arith) r))

pub visible_rise : {a b : ℕ} {l : List Token} (p : Place) → Rise a b l → Rise a b (visible l p)
unfolding visible
visible_rise p (rise_none h) = rise_none h
visible_rise p (rise_more {x = x} g n r) = shown_rise p x g n (visible_rise (next p x) r)

shown_few : (p : Place) (x : Token) (l : List Token) → length (shown p x ++ l) ≤ suc (length l)
shown_few outside x l = split (key 40 x) (λ e. rw e (omega arith)) (λ e. rw e (omega arith))
shown_few (inside o) x l = split (marked x) (λ e. rw e (omega arith)) (λ e. rw e (omega arith))

pub visible_few : (l : List Token) (p : Place) → length (visible l p) ≤ length l
unfolding visible
visible_few [] p = omega arith
visible_few (x ∷ l) p = omega (arith, shown_few p x (visible l (next p x)), visible_few l (next p x))

-- ---- by index
pub rise_after : {a b : ℕ} {l : List Token} → Rise a b l → (i : ℕ) → i < length l → a ≤ (get_or l i no_token).at
rise_after (rise_none h) i g = absurd (not-suc-le-zero g)
rise_after (rise_more h n r) zero g = h
rise_after (rise_more h n r) (suc i) g = omega (arith, rise_after r i (le_of_suc-le-suc g))

pub rise_before :
    {a b : ℕ} {l : List Token}
    → Rise a b l → (i : ℕ) → i < length l → (get_or l i no_token).at + length (get_or l i no_token).bytes ≤ b
rise_before (rise_none h) i g = absurd (not-suc-le-zero g)
rise_before (rise_more h n r) zero g = rise_le r
rise_before (rise_more h n r) (suc i) g = rise_before r i (le_of_suc-le-suc g)

pub rise_some : {a b : ℕ} {l : List Token} → Rise a b l → (i : ℕ) → i < length l → 0 < length (get_or l i no_token).bytes
rise_some (rise_none h) i g = absurd (not-suc-le-zero g)
rise_some (rise_more h n r) zero g = n
rise_some (rise_more h n r) (suc i) g = rise_some r i (le_of_suc-le-suc g)

pub rise_order :
    {a b : ℕ} {l : List Token}
    → Rise a b l → (i j : ℕ) → i < j → j < length l → (get_or l i no_token).at < (get_or l j no_token).at
rise_order (rise_none h) i j k g = absurd (not-suc-le-zero g)
rise_order (rise_more h n r) i zero k g = absurd (not-suc-le-zero k)
rise_order (rise_more h n r) zero (suc j) k g = omega (arith, rise_after r j (le_of_suc-le-suc g))
rise_order (rise_more h n r) (suc i) (suc j) k g = rise_order r i j (le_of_suc-le-suc k) (le_of_suc-le-suc g)

pub math_at : (l : List Token) (i : ℕ) → all math_token l ≡ true → i < length l → all math_byte (get_or l i no_token).bytes ≡ true
unfolding all math_token
math_at [] i e g = absurd (not-suc-le-zero g)
math_at (x ∷ l) zero e g =
    split (all math_byte x.bytes) (λ q. q) (λ q. let z : false ≡ true = rw q at e in cc)
math_at (x ∷ l) (suc i) e g =
    split (all math_byte x.bytes)
    (λ q. math_at l i (rw q at e) (le_of_suc-le-suc g))
    (λ q. let z : false ≡ true = rw q at e in cc)
