-- The tokens of a part of the text that stops at white space or at the text's end are tokens of the text, with their offsets moved.
-- Assumes nothing.
use mathlib.Core.Path.{◌≡◌, refl, ◌∙◌}
use mathlib.Core.Bool.{true}
use mathlib.Core.List.{List, [], ◌∷◌, ◌++◌, map}
use Prim.Native.Nat.{ℕ, zero, suc, ◌+◌, ◌-◌, ◌<◌, ◌≤◌}
use native.Mathlib.Nat.{add-zero, add-suc, suc-add, sub-zero, not-suc-le-zero, le_of_suc-le-suc}
use native.Mathlib.Omega.{arith}
use lib.ListN.{length, get_or, take, drop, length-drop}
use lib.Seq.{drop-drop, get_or-drop, take-nil}
use Rattle.paper.specs.Bytes.{white}
use Rattle.paper.specs.Tokens.{Token, put, run, toks}
use Rattle.paper.proofs.Tests.{split}
use Rattle.token.specs.Words.{tokens_from, move}

put_append : (o : ℕ) (h : List ℕ) (l m : List Token) → put o h (l ++ m) ≡ put o h l ++ m
put_append o [] l m = refl
put_append o (b ∷ h) l m = refl

run_part : (l : List ℕ) (n o : ℕ) → n ≤ length l → (n < length l → white (get_or l n 0) ≡ true)
    → ((run l o).head ≡ (run (take n l) o).head) × ((run l o).rest ≡ (run (take n l) o).rest ++ toks (drop n l) (o + n))
unfolding run toks
run_part [] zero o h e = (refl, refl)
run_part [] (suc n) o h e = absurd (not-suc-le-zero h)
run_part (b ∷ l) zero o h e = let w : white b ≡ true = e (omega arith) in rw (w, add-zero) (refl, refl)
run_part (b ∷ l) (suc n) o h e =
    let r = run_part l n (suc o) (le_of_suc-le-suc h) (λ m. e (omega arith)) in
    split (white b)
    (λ w. rw (w, r.0, r.1, suc-add, ← add-suc) (refl, put_append (suc o) (run (take n l) (suc o)).head (run (take n l) (suc o)).rest (toks (drop n l) (o + suc n))))
    (λ w. rw (w, r.0, r.1, suc-add, ← add-suc) (refl, refl))

toks_part : (l : List ℕ) (n o : ℕ) → n ≤ length l → (n < length l → white (get_or l n 0) ≡ true) → toks l o ≡ toks (take n l) o ++ toks (drop n l) (o + n)
unfolding toks
toks_part l n o h e =
    let r = run_part l n o h e in
    rw (r.0, r.1) (put_append o (run (take n l) o).head (run (take n l) o).rest (toks (drop n l) (o + n)))

put_move : (k o : ℕ) (h : List ℕ) (l : List Token) → put (o + k) h (map (move k) l) ≡ map (move k) (put o h l)
put_move k o [] l = refl
put_move k o (b ∷ h) l = refl

run_move : (l : List ℕ) (k o : ℕ) → ((run l (o + k)).head ≡ (run l o).head) × ((run l (o + k)).rest ≡ map (move k) (run l o).rest)
unfolding run
run_move [] k o = (refl, refl)
run_move (b ∷ l) k o =
    let r = run_move l k (suc o) in
    split (white b)
    (λ w. rw (w, ← suc-add, r.0, r.1) (refl, put_move k (suc o) (run l (suc o)).head (run l (suc o)).rest))
    (λ w. rw (w, ← suc-add, r.0, r.1) (refl, refl))

toks_move : (l : List ℕ) (k o : ℕ) → toks l (o + k) ≡ map (move k) (toks l o)
unfolding toks
toks_move l k o =
    let r = run_move l k o in rw (r.0, r.1) (put_move k o (run l o).head (run l o).rest)

-- the text is cut at white space or at its end
pub part_tokens : (t : List ℕ) (a b : ℕ) → a ≤ b → b ≤ length t → (b < length t → white (get_or t b 0) ≡ true)
    → tokens_from t a ≡ toks (take (b - a) (drop a t)) a ++ tokens_from t b
unfolding tokens_from
part_tokens t a b h k e =
    let q : a + (b - a) ≡ b = omega arith in
    let l : length (drop a t) ≡ length t - a = length-drop a t in
    let w : b - a < length (drop a t) → white (get_or (drop a t) (b - a) 0) ≡ true = λ m. rw (get_or-drop, q) (e (omega arith)) in
    toks_part (drop a t) (b - a) a (omega arith) w ∙ rw (drop-drop (b - a) a t, q)

drop_take : (l : List ℕ) (n i : ℕ) → drop i (take n l) ≡ take (n - i) (drop i l)
drop_take l n zero = rw sub-zero
drop_take [] n (suc i) = rw (take-nil n, take-nil (n - suc i))
drop_take (b ∷ l) zero (suc i) = let q : 0 - suc i ≡ 0 = omega arith in rw q
drop_take (b ∷ l) (suc n) (suc i) = let q : suc n - suc i ≡ n - i = omega arith in rw q (drop_take l n i)

-- from offset i of the part `&text[a..b]` on
pub tokens_part : (t : List ℕ) (a b i : ℕ) → a + i ≤ b → b ≤ length t → (b < length t → white (get_or t b 0) ≡ true)
    → tokens_from t (a + i) ≡ map (move a) (tokens_from (take (b - a) (drop a t)) i) ++ tokens_from t b
unfolding tokens_from
tokens_part t a b i h k e =
    let c : a + i ≡ i + a = omega arith in
    let n : b - (a + i) ≡ (b - a) - i = omega arith in
    let m : toks (take (b - (a + i)) (drop (a + i) t)) (a + i) ≡ map (move a) (toks (drop i (take (b - a) (drop a t))) i) =
    rw (drop_take (drop a t) (b - a) i, drop-drop i a t, n, c) (toks_move (take ((b - a) - i) (drop (i + a) t)) a i) in
    part_tokens t (a + i) b h k e ∙ rw m
