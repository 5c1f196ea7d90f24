-- Lines, byte by byte and token by token: a line feed is one more, and no token holds one.
-- Assumes nothing.
use mathlib.Core.Path.{◌≡◌, refl, sym, ap, ◌∙◌}
use mathlib.Core.Bool.{false}
use mathlib.Core.List.{List, [], ◌∷◌, ◌++◌}
use Prim.Native.Nat.{ℕ, ◌+◌, ◌-◌, ◌<◌, ◌≤◌, zero-le}
use native.Mathlib.Nat.{zero-add}
use native.Mathlib.Numerals.{add-one}
use native.Mathlib.Omega.{arith}
use lib.Dec.{eqb}
use lib.ListN.{length, get_or, take, drop}
use lib.Seq.{take-suc, take-add, length-take-le}
use Rattle.std.proofs.lemmas.List.{take_all}
use borrow.Author.Tests.{eqb-true}
use Rattle.paper.specs.Bytes.{white}
use Rattle.paper.specs.Lines.{feed, feeds, line_at}
use Rattle.std.specs.Int.{from_bool}
use Rattle.paper.proofs.Tests.{split, clash}
use Rattle.token.specs.Words.{word}
use Rattle.token.proofs.Words.{stop_of, word_take}

feeds_append : (l m : List ℕ) → feeds (l ++ m) ≡ feeds l + feeds m
unfolding feeds
feeds_append [] m = sym (zero-add (feeds m))
feeds_append (b ∷ l) m = omega (arith, feeds_append l m)

pub feeds_parts : {x : List ℕ} (l m : List ℕ) → x ≡ l ++ m → feeds x ≡ feeds l + feeds m
feeds_parts l m e = ap feeds e ∙ feeds_append l m

-- one byte more
pub line_step : (t : List ℕ) (i : ℕ) → i < length t → line_at t (i + 1) ≡ line_at t i + feed (get_or t i 0)
unfolding feeds line_at
line_step t i h =
    rw (add-one, take-suc t i 0 h) (omega (arith, feeds_append (take i t) (get_or t i 0 ∷ [])))

-- what the code adds at a byte
pub feed_bit : (b : ℕ) → from_bool (eqb b 10) ≡ feed b
feed_bit b = split (eqb b 10) (λ e. rw e) (λ e. rw e)

pub feed_le : (b : ℕ) → feed b ≤ 1
feed_le b = split (eqb b 10) (λ e. rw e (omega arith)) (λ e. rw e (omega arith))

pub feeds_le : (l : List ℕ) → feeds l ≤ length l
unfolding feeds
feeds_le [] = zero-le
feeds_le (b ∷ l) = omega (arith, feeds_le l, feed_le b)

-- no more lines than bytes, and one
pub line_few : (t : List ℕ) (i : ℕ) → i ≤ length t → line_at t i ≤ i + 1
unfolding line_at
line_few t i h = omega (arith, feeds_le (take i t), length-take-le i t h)

-- ---- no token holds a line feed
feed_dark : (b : ℕ) → white b ≡ false → feed b ≡ 0
unfolding white
feed_dark b w =
    split (eqb b 10)
    (λ e. let q : b ≡ 10 = eqb-true b 10 e in absurd (clash (rw q at w)))
    (λ e. rw e)

feeds_word : (l : List ℕ) → feeds (word l) ≡ 0
unfolding feeds word
feeds_word [] = refl
feeds_word (b ∷ l) =
    split (white b)
    (λ e. rw e)
    (λ e. rw e (omega (arith, feed_dark b e, feeds_word l)))

pub line_token : (t : List ℕ) (s : ℕ) → line_at t (stop_of t s) ≡ line_at t s
unfolding line_at
line_token t s =
    let w : feeds (take (length (word (drop s t))) (drop s t)) ≡ 0 = ap feeds (sym (word_take (drop s t))) ∙ feeds_word (drop s t) in
    let q : feeds (take (s + length (word (drop s t))) t) ≡ feeds (take s t) + feeds (take (length (word (drop s t))) (drop s t)) =
    ap feeds (take-add s (length (word (drop s t))) t) ∙ feeds_append (take s t) (take (length (word (drop s t))) (drop s t)) in
    omega (arith, w, q)

-- from one place to another: the line feeds on the way are counted
pub line_between : (t : List ℕ) (i j : ℕ) → i ≤ j → line_at t i + feeds (take (j - i) (drop i t)) ≡ line_at t j
unfolding line_at
line_between t i j h =
    let e : j ≡ i + (j - i) = omega arith in
    let q : feeds (take (i + (j - i)) t) ≡ feeds (take i t) + feeds (take (j - i) (drop i t)) =
    ap feeds (take-add i (j - i) t) ∙ feeds_append (take i t) (take (j - i) (drop i t)) in
    let r : feeds (take j t) ≡ feeds (take (i + (j - i)) t) = ap (λ (k : ℕ). feeds (take k t)) e in
    omega (arith, q, r)

-- all bytes of a text
pub feeds_all : (t : List ℕ) → line_at t (length t) ≡ feeds t + 1
unfolding line_at
feeds_all t = let e : take (length t) t ≡ t = take_all (length t) t (omega arith) in rw e (omega arith)

-- the start
pub line_start : (t : List ℕ) → 1 ≡ line_at t 0
unfolding feeds line_at
line_start t = refl
