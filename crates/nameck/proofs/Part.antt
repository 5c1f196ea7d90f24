-- Where the tokens of a part of the text lie: a token outside comments starts in the part, and its bytes are the word there.
-- Assumes nothing.
use mathlib.Core.Path.{◌≡◌, refl, sym, ap}
use mathlib.Core.List.{List, [], ◌∷◌}
use Prim.Native.Nat.{ℕ, zero, suc, ◌+◌, ◌<◌, ◌≤◌}
use native.Mathlib.Nat.{le_of_suc-le-suc, not-suc-le-zero}
use native.Mathlib.Omega.{arith}
use lib.ListN.{length, get_or, drop}
use Rattle.paper.specs.Bytes.{white}
use Rattle.paper.specs.Tokens.{Token, put, run, toks, key}
use Rattle.paper.specs.Comments.{Place, outside, inside, next, marked, visible}
use Rattle.paper.specs.Checks.{no_token}
use Rattle.paper.proofs.Tests.{split}
use Rattle.token.specs.Words.{word}

-- what holds of each token of a list
abbrev Each : (Token → Type 0) → List Token → Type 0
Each P l = (i : ℕ) → i < length l → P (get_or l i no_token)

each_cons : (P : Token → Type 0) (x : Token) (l : List Token) → P x → Each P l → Each P (x ∷ l)
each_cons P x l p h zero k = p
each_cons P x l p h (suc i) k = h i (le_of_suc-le-suc k)

each_put : (P : Token → Type 0) (o : ℕ) (b : List ℕ) (l : List Token) → P (record { at = o; bytes = b }) → Each P l → Each P (put o b l)
each_put P o [] l p h = h
each_put P o (c ∷ b) l p h = each_cons P (record { at = o; bytes = c ∷ b }) l p h

each_visible : (P : Token → Type 0) (l : List Token) (p : Place) → Each P l → Each P (visible l p)
unfolding visible
each_visible P [] p h = λ i k. absurd (not-suc-le-zero k)
each_visible P (x ∷ l) (inside o) h =
    let r = each_visible P l (next (inside o) x) (λ i k. h (suc i) (omega arith)) in
    split (marked x) (λ e. rw e (each_cons P x (visible l (next (inside o) x)) (h zero (omega arith)) r)) (λ e. rw e r)
each_visible P (x ∷ l) outside h =
    split (key 40 x)
    (λ e. rw e (each_visible P l (inside x.at) (λ i k. h (suc i) (omega arith))))
    (λ e. rw e (each_cons P x (visible l outside) (h zero (omega arith)) (each_visible P l outside (λ i k. h (suc i) (omega arith)))))

-- the token x of the bytes l, of which the first has offset o
pub record Lies (l : List ℕ) (o : ℕ) (x : Token) : Type 0 where
  pub off : ℕ
  pub at : x.at ≡ o + off
  pub bytes : word (drop off l) ≡ x.bytes
  pub within : off ≤ length l

lies_on : (b : ℕ) (l : List ℕ) (o : ℕ) (x : Token) → Lies l (suc o) x → Lies (b ∷ l) o x
lies_on b l o x h =
    record { off = suc h.off; at = omega (arith, h.at); bytes = h.bytes; within = omega (arith, h.within) }

run_head : (l : List ℕ) (o : ℕ) → (run l o).head ≡ word l
unfolding run word
run_head [] o = refl
run_head (b ∷ l) o = split (white b) (λ e. rw e) (λ e. rw e (ap (λ h. b ∷ h) (run_head l (suc o))))

lies_first : (l : List ℕ) (o : ℕ) → Lies l o (record { at = o; bytes = (run l o).head })
lies_first l o = record { off = 0; at = omega arith; bytes = sym (run_head l o); within = omega arith }

run_lies : (l : List ℕ) (o : ℕ) → Each (Lies l o) (run l o).rest
unfolding run
run_lies [] o = λ i k. absurd (not-suc-le-zero k)
run_lies (b ∷ l) o =
    let h : Each (Lies (b ∷ l) o) (run l (suc o)).rest = λ i k. lies_on b l o _ (run_lies l (suc o) i k) in
    split (white b)
    (λ e. rw e (each_put (Lies (b ∷ l) o) (suc o) (run l (suc o)).head (run l (suc o)).rest (lies_on b l o _ (lies_first l (suc o))) h))
    (λ e. rw e h)

toks_lies : (l : List ℕ) (o : ℕ) → Each (Lies l o) (toks l o)
unfolding toks
toks_lies l o = each_put (Lies l o) o (run l o).head (run l o).rest (lies_first l o) (run_lies l o)

pub visible_lies : (l : List ℕ) (o : ℕ) (m : List Token) (i : ℕ) → visible (toks l o) outside ≡ m → i < length m → Lies l o (get_or m i no_token)
visible_lies l o m i e k = rw e at (each_visible (Lies l o) (toks l o) outside (toks_lies l o) i (rw (← e) at k))
