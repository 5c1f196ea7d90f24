-- Tokens from an offset on have their offsets there, and so has a comment that is open after them.
-- A token that the grammar does not allow is then earlier than it.
use mathlib.Core.Path.{◌≡◌, refl, sym}
use mathlib.Core.Bool.{Bool, true}
use mathlib.Core.List.{List, [], ◌∷◌}
use Prim.Native.Nat.{ℕ, suc, ◌<◌, ◌≤◌}
use native.Mathlib.Omega.{arith}
use lib.Dec.{leb}
use lib.ListN.{drop}
use borrow.Author.Tests.{le-leb, le-ltb, leb-true}
use Rattle.paper.specs.Base.{all, keep}
use Rattle.paper.specs.Bytes.{white}
use Rattle.paper.specs.Tokens.{Token, put, run, toks, key}
use Rattle.paper.specs.Comments.{Place, outside, inside, after, marked}
use Rattle.paper.specs.Reader.{earlier}
use Rattle.paper.specs.declared.Refusal.TheVariants.{BadToken}
use Rattle.paper.proofs.Tests.{split, clash}
use Rattle.token.specs.Words.{tokens_from}

put_after : (o n : ℕ) (h : List ℕ) (l : List Token) → o ≤ n → all (λ y. leb o y.at) l ≡ true → all (λ y. leb o y.at) (put n h l) ≡ true
unfolding all
put_after o n [] l g e = e
put_after o n (b ∷ h) l g e = rw (le-leb o n g) e

run_after : (l : List ℕ) (o n : ℕ) → o ≤ n → all (λ y. leb o y.at) (run l n).rest ≡ true
unfolding run all
run_after [] o n g = refl
run_after (b ∷ l) o n g =
    let r = run_after l o (suc n) (omega arith) in
    split (white b) (λ w. rw w (put_after o (suc n) (run l (suc n)).head (run l (suc n)).rest (omega arith) r)) (λ w. rw w r)

pub tokens_after : (t : List ℕ) (i : ℕ) → all (λ y. leb i y.at) (tokens_from t i) ≡ true
unfolding tokens_from toks
tokens_after t i =
    put_after i i (run (drop i t) i).head (run (drop i t) i).rest (omega arith) (run_after (drop i t) i i (omega arith))

pub all_kept_from : (i : ℕ) (l : List Token) → all (λ y. leb i y.at) l ≡ true → all (λ y. leb i y.at) (keep marked l) ≡ true
unfolding keep all
all_kept_from i [] e = refl
all_kept_from i (x ∷ l) e =
    split (leb i x.at)
    (λ a. split (marked x) (λ m. rw (m, a) (all_kept_from i l (rw a at e))) (λ m. rw m (all_kept_from i l (rw a at e))))
    (λ a. absurd (clash (sym (rw a at e))))

-- ---- a comment that is open after them
abbrev from_place : ℕ → Place → Bool
from_place e outside = true
from_place e (inside c) = leb e c

place_from : (e : ℕ) (l : List Token) (p : Place) → all (λ y. leb e y.at) l ≡ true → from_place e p ≡ true → from_place e (after l p) ≡ true
unfolding after all
place_from e [] p a h = h
place_from e (x ∷ l) outside a h =
    split (leb e x.at)
    (λ b. split (key 40 x)
    (λ k. rw k (place_from e l (inside x.at) (rw b at a) b))
    (λ k. rw k (place_from e l outside (rw b at a) refl)))
    (λ b. absurd (clash (sym (rw b at a))))
place_from e (x ∷ l) (inside o) a h =
    split (leb e x.at)
    (λ b. split (key 41 x)
    (λ k. rw k (place_from e l outside (rw b at a) refl))
    (λ k. rw k (place_from e l (inside o) (rw b at a) h)))
    (λ b. absurd (clash (sym (rw b at a))))

earlier_place : (o e : ℕ) (p : Place) → o < e → from_place e p ≡ true → earlier o p ≡ BadToken o
earlier_place o e outside l h = refl
earlier_place o e (inside c) l h = rw (le-ltb c o (omega (arith, leb-true e c h)))

pub earlier_token : (t : List ℕ) (o e : ℕ) → o < e → earlier o (after (tokens_from t e) outside) ≡ BadToken o
earlier_token t o e l =
    earlier_place o e (after (tokens_from t e) outside) l (place_from e (tokens_from t e) outside (tokens_after t e) refl)
