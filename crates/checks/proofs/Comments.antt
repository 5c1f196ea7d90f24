-- The tokens of a part of the text outside comments, and the math tokens of a statement as those of its part.
-- Assumes nothing.
use mathlib.Core.Path.{◌≡◌, refl, sym, ap, ◌∙◌}
use mathlib.Core.Bool.{Bool, true}
use mathlib.Core.List.{List, [], ◌∷◌, ◌++◌, map, append-nil}
use Prim.Native.Nat.{ℕ, zero, suc, ◌+◌, ◌-◌, ◌<◌, ◌≤◌, suc-le-suc}
use native.Mathlib.Nat.{le_refl}
use native.Mathlib.Omega.{arith}
use lib.ListN.{length, get_or, take, drop, replicate, length-append, length-replicate}
use lib.Seq.{drop_at, take-length}
use Rattle.paper.specs.Base.{all}
use Rattle.paper.specs.Tokens.{Token, toks, key}
use Rattle.paper.specs.Comments.{Place, outside, inside, bracketed, visible}
use Rattle.paper.specs.declared.Refusal.{Refusal}
use Rattle.paper.specs.Checks.{no_token}
use Rattle.paper.proofs.Tests.{split, clash}
use Rattle.paper.proofs.Comments.{visible_append}
use Rattle.token.specs.Words.{tokens_from, move}
use Rattle.token.specs.declared.cursor.Span.{Span}
use Rattle.token.specs.declared.cursor.Cursor.{Cursor}
use Rattle.token.proofs.Words.{tokens_end}
use Rattle.token.proofs.Parts.{tokens_part}
use Rattle.reader.specs.Passed.{Passed, Shows, spoilt, Refuses}
use Rattle.checks.specs.Visible.{visible_from, clean, Calm, First, Left}
use Rattle.checks.proofs.Each.{left_none}

-- ---- what a look for the next token passed
visible_past : {q : List ℕ} {i e : ℕ} {p : Place} {m : List Token} → Passed q i e outside m p → visible_from q i ≡ m ++ visible (tokens_from q e) p
unfolding visible_from
visible_past {q} {i} {e} x =
    ap (λ (l : List Token). visible l outside) x.split
    ∙ visible_append x.pre (tokens_from q e) outside
    ∙ rw (x.shows, x.place)

pub first_of : {q : List ℕ} {i : ℕ} {x : Span} {c : Cursor} → Shows q i x c → First q i x.start c.at
unfolding visible_from
first_of h =
    rw h.stands
    (record { rest = rw h.stands at (visible_past h.passed); some = h.whole.some; within = h.whole.within })

nothing_more : (q : List ℕ) (p : Place) → visible (tokens_from q (length q)) p ≡ []
unfolding visible
nothing_more q p = ap (λ (l : List Token). visible l p) (tokens_end q)

pub none_of : {q : List ℕ} {i : ℕ} {p : Place} → Passed q i (length q) outside [] p → visible_from q i ≡ []
none_of {q} {p = p} x = visible_past x ∙ nothing_more q p

-- a comment that is refused, where no visible token may not stand in a comment
spoilt_none : (l : List Token) → spoilt l ≡ true → all clean l ≡ true → l ≡ []
unfolding all
spoilt_none [] e a = refl
spoilt_none (y ∷ l) e a = absurd (clash (sym (rw e at a)))

pub refused_none : {q : List ℕ} {i l : ℕ} {x : Refusal} → Refuses q i x l → all clean (visible_from q i) ≡ true → visible_from q i ≡ []
unfolding visible_from
refused_none {q} {i} h a = spoilt_none (visible (tokens_from q i) outside) h.first a

-- what is left of a calm part, and a calm part by its tokens
all_drop : (p : Token → Bool) (l : List Token) (i : ℕ) → all p l ≡ true → all p (drop i l) ≡ true
unfolding all
all_drop p l zero e = e
all_drop p [] (suc i) e = e
all_drop p (x ∷ l) (suc i) e = split (p x) (λ h. all_drop p l i (rw h at e)) (λ h. absurd (clash (sym (rw h at e))))

pub all_each : (p : Token → Bool) (l : List Token) → ((i : ℕ) → i < length l → p (get_or l i no_token) ≡ true) → all p l ≡ true
unfolding all
all_each p [] f = refl
all_each p (x ∷ l) f = rw (f 0 (omega arith)) (all_each p l (λ i h. f (suc i) (suc-le-suc h)))

pub left_calm : {q : List ℕ} {c i : ℕ} → Calm q → Left q c i → all clean (visible_from q c) ≡ true
left_calm {q} {c} {i} a h = rw (← h.rest) (all_drop clean (visible_from q 0) i a)

-- ---- a part whose first byte has offset k
abbrev moved : ℕ → Place → Place
moved k outside = outside
moved k (inside o) = inside (o + k)

visible_move : (k : ℕ) (l : List Token) (p : Place) → visible (map (move k) l) (moved k p) ≡ map (move k) (visible l p)
unfolding visible key
visible_move k [] p = refl
visible_move k (x ∷ l) outside =
    split (key 40 x)
    (λ e. rw e (visible_move k l (inside x.at)))
    (λ e. rw e (ap (λ (m : List Token). move k x ∷ m) (visible_move k l outside)))
visible_move k (x ∷ l) (inside o) =
    split (bracketed x.bytes)
    (λ b. split (key 41 x)
    (λ e. rw (b, e) (visible_move k l outside))
    (λ e. rw (b, e) (ap (λ (m : List Token). move k x ∷ m) (visible_move k l (inside o)))))
    (λ b. split (key 41 x) (λ e. rw (b, e) (visible_move k l outside)) (λ e. rw (b, e) (visible_move k l (inside o))))

from_start : (q t : List ℕ) (k : ℕ) → drop k t ≡ q → tokens_from t (k + 0) ≡ toks q k
unfolding tokens_from
from_start q t k d = let z : k + 0 ≡ k = omega arith in rw (z, d)

-- bytes of which the first has offset k stand in a text after k others
toks_moved : (q : List ℕ) (k : ℕ) → toks q k ≡ map (move k) (tokens_from q 0)
toks_moved q k =
    let p : List ℕ = replicate k 32 in
    let t : List ℕ = p ++ q in
    let n : length p ≡ k = length-replicate k 32 in
    let a : length t ≡ length p + length q = length-append p q in
    let d : drop k t ≡ q = drop_at p q k n in
    let m : length t - k ≡ length q = omega arith in
    let i : take (length t - k) (drop k t) ≡ q = rw (d, m) (take-length q) in
    let w : tokens_from t (k + 0) ≡ map (move k) (tokens_from (take (length t - k) (drop k t)) 0) ++ tokens_from t (length t) =
    tokens_part t k (length t) 0 (omega arith) (le_refl _) (λ h. absurd (omega arith)) in
    sym (from_start q t k d)
    ∙ w
    ∙ ap (λ (l : List Token). map (move k) (tokens_from (take (length t - k) (drop k t)) 0) ++ l) (tokens_end t)
    ∙ append-nil (map (move k) (tokens_from (take (length t - k) (drop k t)) 0))
    ∙ ap (λ (l : List ℕ). map (move k) (tokens_from l 0)) i

-- the math tokens, by the part
pub math_part : (q : List ℕ) (k : ℕ) → visible (toks q k) outside ≡ map (move k) (visible_from q 0)
unfolding visible_from
math_part q k = ap (λ (l : List Token). visible l outside) (toks_moved q k) ∙ visible_move k (tokens_from q 0) outside

-- no more tokens, or a comment that is refused: all tokens of a calm part are done
pub none_more : {q : List ℕ} {c i : ℕ} → Left q c i → Passed q c (length q) outside [] outside → length (visible_from q 0) ≤ i
none_more l h = left_none l (none_of h)

pub none_refused : {q : List ℕ} {c i m : ℕ} {x : Refusal} → Calm q → Left q c i → Refuses q c x m → length (visible_from q 0) ≤ i
none_refused a l h = left_none l (refused_none h (left_calm a l))
