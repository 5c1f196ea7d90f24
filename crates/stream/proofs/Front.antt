-- Bytes written before others that were written first: a record's length, once its payload is there.
-- Assumes nothing.
use mathlib.Core.Path.{◌≡◌, sym, ap, ◌∙◌}
use mathlib.Core.List.{List, ◌++◌, append_assoc}
use Prim.Native.Nat.{ℕ, ◌+◌, ◌≤◌}
use native.Mathlib.Omega.{arith}
use lib.ListN.{length, take, drop, length-append}
use lib.Seq.{take-take, take-append-le, drop_at, length-take-le}
use Rattle.paper.specs.Answer.{laid}
use Rattle.stream.specs.Wrote.{Wrote}

pub laid_front :
    (l : List ℕ) (i : ℕ) (a b : List ℕ) → i + length a + length b ≤ length l
    → laid (laid l (i + length a) b) i a ≡ laid l i (a ++ b)
unfolding laid
laid_front l i a b h =
    let j = i + length a in
    let s : length (take j l) ≡ j = length-take-le j l (omega arith) in
    let p : take i (take j l ++ (b ++ drop (j + length b) l)) ≡ take i l =
    take-append-le i (take j l) (b ++ drop (j + length b) l) (omega (arith, s)) ∙ take-take i j l (omega arith) in
    let q : drop j (take j l ++ (b ++ drop (j + length b) l)) ≡ b ++ drop (j + length b) l =
    drop_at (take j l) (b ++ drop (j + length b) l) j s in
    let e : i + length (a ++ b) ≡ j + length b = omega (arith, length-append a b) in
    rw (p, q, e) (ap (λ x. take i l ++ x) (sym (append_assoc a b (drop (j + length b) l))))

pub wrote_front :
    {l m n : List ℕ} {at p r : ℕ} {a b : List ℕ} → Wrote l m p r b → Wrote m n at p a → Wrote l n at r (a ++ b)
wrote_front {l} {m} {n} {at} {p} {r} {a} {b} x y =
    record {
      place = omega (arith, x.place, y.place, length-append a b);
      len = y.len ∙ x.len;
      bytes = λ h.
          let f : p ≤ length m = omega (arith, x.place, x.len, h) in
          let g : m ≡ laid l (at + length a) b = x.bytes h ∙ ap (λ i. laid l i b) y.place in
          y.bytes f ∙ ap (λ u. laid u at a) g ∙ laid_front l at a b (omega (arith, x.place, y.place, h));
    }
