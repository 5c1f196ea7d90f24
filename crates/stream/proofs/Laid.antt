-- Bytes laid over a list from a place on: their number, and two runs of them that follow each other.
-- For every crate that writes.
use mathlib.Core.Path.{◌≡◌, sym, ap, ◌∙◌}
use mathlib.Core.List.{List, [], ◌++◌, append_assoc}
use Prim.Native.Nat.{ℕ, ◌+◌, ◌≤◌}
use native.Mathlib.Nat.{add-zero}
use native.Mathlib.Omega.{arith}
use lib.ListN.{length, take, drop, length-append, length-take, length-drop, take-append-drop}
use lib.Seq.{take_at, drop_at, drop-drop}
use Rattle.paper.specs.Answer.{laid}

pub laid_none : (l : List ℕ) (i : ℕ) → laid l i [] ≡ l
unfolding laid
laid_none l i = rw add-zero (take-append-drop i l)

pub length_laid : (l : List ℕ) (i : ℕ) (b : List ℕ) → i + length b ≤ length l → length (laid l i b) ≡ length l
unfolding laid
length_laid l i b h = simp (length-append, length-take, length-drop) (omega arith)

-- the bytes before the place, with those that are laid
length_front : (l : List ℕ) (i : ℕ) (a : List ℕ) → i ≤ length l → length (take i l ++ a) ≡ i + length a
length_front l i a h = simp (length-append, length-take) (omega arith)

-- two runs that follow each other are one
pub laid_append : (l : List ℕ) (i : ℕ) (a b : List ℕ) → i + length a ≤ length l → laid (laid l i a) (i + length a) b ≡ laid l i (a ++ b)
unfolding laid
laid_append l i a b h =
    let p = take i l ++ a in
    let d = drop (i + length a) l in
    let n : length p ≡ i + length a = length_front l i a (omega arith) in
    let q : take i l ++ (a ++ d) ≡ p ++ d = sym (append_assoc (take i l) a d) in
    let k : (i + length a) + length b ≡ i + length (a ++ b) = omega (arith, length-append a b) in
    let e : drop ((i + length a) + length b) (p ++ d) ≡ drop (i + length (a ++ b)) l =
    sym (drop-drop (length b) (i + length a) (p ++ d))
    ∙ ap (drop (length b)) (drop_at p d (i + length a) n)
    ∙ drop-drop (length b) (i + length a) l
    ∙ ap (λ (j : ℕ). drop j l) k in
    rw (q, take_at p d (i + length a) n, e, append_assoc, append_assoc)
