-- Bytes laid before others that are laid: as if they had come first.
-- Assumes nothing.
use mathlib.Core.Path.{◌≡◌, refl, sym, ap, ◌∙◌}
use mathlib.Core.List.{List, ◌++◌, append_assoc}
use Prim.Native.Nat.{ℕ, ◌+◌, ◌-◌, ◌≤◌}
use native.Mathlib.Omega.{arith}
use lib.ListN.{length, take, drop, length-append, length-drop, take-append-drop}
use lib.Seq.{take_at, drop_at, drop-drop, length-take-le}
use Rattle.paper.specs.Answer.{laid}
use Rattle.stream.specs.Wrote.{Wrote}
use Rattle.stream.proofs.Laid.{length_laid}

laid_is :
    (l a x z b : List ℕ) (i : ℕ) → l ≡ a ++ (x ++ z) → length a ≡ i → length x ≡ length b → laid l i b ≡ a ++ (b ++ z)
unfolding laid
laid_is l a x z b i e h k =
    let d : drop (i + length b) (a ++ (x ++ z)) ≡ z =
    sym (drop-drop (length b) i (a ++ (x ++ z)))
    ∙ ap (drop (length b)) (drop_at a (x ++ z) i h)
    ∙ drop_at x z (length b) k in
    rw (e, take_at a (x ++ z) i h, d)

module _ (l a x y d z b c : List ℕ) (i p : ℕ) (e : l ≡ a ++ (x ++ (y ++ (d ++ z)))) (h : length a ≡ i) (j : length x ≡ length b) (k : length a + (length x + length y) ≡ p) (o : length d ≡ length c) where
  apart : (t : List ℕ) → a ++ (t ++ (y ++ (d ++ z))) ≡ (a ++ (t ++ y)) ++ (d ++ z)
  apart t = ap (λ u. a ++ u) (sym (append_assoc t y (d ++ z))) ∙ sym (append_assoc a (t ++ y) (d ++ z))

  size : (t : List ℕ) → length t ≡ length x → length (a ++ (t ++ y)) ≡ p
  size t q = omega (arith, length-append a (t ++ y), length-append t y, q, k)

  joined : (t : List ℕ) → (a ++ (t ++ y)) ++ (c ++ z) ≡ a ++ (t ++ (y ++ (c ++ z)))
  joined t = append_assoc a (t ++ y) (c ++ z) ∙ ap (λ u. a ++ u) (append_assoc t y (c ++ z))

  swap_parts : laid (laid l p c) i b ≡ laid (laid l i b) p c
  swap_parts =
      let f : laid l p c ≡ a ++ (x ++ (y ++ (c ++ z))) =
      laid_is l (a ++ (x ++ y)) d z c p (e ∙ apart x) (size x refl) o ∙ joined x in
      let g : laid l i b ≡ a ++ (b ++ (y ++ (d ++ z))) = laid_is l a x (y ++ (d ++ z)) b i e h j in
      laid_is (laid l p c) a x (y ++ (c ++ z)) b i f h j
      ∙ sym (laid_is (laid l i b) (a ++ (b ++ y)) d z c p (g ∙ apart b) (size b (sym j)) o ∙ joined b)

laid_swap :
    (l : List ℕ) (i p : ℕ) (b c : List ℕ) → i + length b ≤ p → p + length c ≤ length l
    → laid (laid l p c) i b ≡ laid (laid l i b) p c
laid_swap l i p b c h k =
    let l₁ = drop i l in
    let l₂ = drop (length b) l₁ in
    let n = p - (i + length b) in
    let l₃ = drop n l₂ in
    let e₁ : length l₁ ≡ length l - i = length-drop i l in
    let e₂ : length l₂ ≡ length l₁ - length b = length-drop (length b) l₁ in
    let e₃ : length l₃ ≡ length l₂ - n = length-drop n l₂ in
    let f₀ : length (take i l) ≡ i = length-take-le i l (omega arith) in
    let f₁ : length (take (length b) l₁) ≡ length b = length-take-le (length b) l₁ (omega arith) in
    let f₂ : length (take n l₂) ≡ n = length-take-le n l₂ (omega arith) in
    let f₃ : length (take (length c) l₃) ≡ length c = length-take-le (length c) l₃ (omega arith) in
    swap_parts l (take i l) (take (length b) l₁) (take n l₂) (take (length c) l₃) (drop (length c) l₃) b c i p
    (sym
    (ap (λ t. take i l ++ (take (length b) l₁ ++ (take n l₂ ++ t))) (take-append-drop (length c) l₃)
    ∙ ap (λ t. take i l ++ (take (length b) l₁ ++ t)) (take-append-drop n l₂)
    ∙ ap (λ t. take i l ++ t) (take-append-drop (length b) l₁)
    ∙ take-append-drop i l))
    f₀ f₁ (omega arith) f₃

-- a write before another write that stands: as if it had come first
pub wrote_first :
    {m b c : List ℕ} {p e q r : ℕ} {x y : List ℕ} → Wrote m b p e x → Wrote b c q r y → r ≤ p → e ≤ length m
    → Wrote m (laid m q y) q r y
wrote_first {m} {q = q} {y = y} f g h k =
    record { place = g.place; len = length_laid m q y (omega (arith, f.place, g.place)); bytes = λ o. refl }

pub wrote_after :
    {m b c : List ℕ} {p e q r : ℕ} {x y : List ℕ} → Wrote m b p e x → Wrote b c q r y → r ≤ p → e ≤ length m
    → Wrote (laid m q y) c p e x
wrote_after {m} {b} {c} {p} {e} {q} {r} {x} {y} f g h k =
    let n : length (laid m q y) ≡ length m = length_laid m q y (omega (arith, f.place, g.place)) in
    record {
      place = f.place;
      len = g.len ∙ f.len ∙ sym n;
      bytes = λ o.
          g.bytes (omega (arith, f.len, f.place))
          ∙ ap (λ t. laid t q y) (f.bytes k)
          ∙ laid_swap m q p y x (omega (arith, g.place)) (omega (arith, f.place));
    }
