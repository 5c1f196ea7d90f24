-- One name: the two ways in which `see` returns.
-- Assumes nothing.
use mathlib.Core.Path.{◌≡◌, refl, sym, ap, ◌∙◌}
use mathlib.Core.Bool.{true, false}
use mathlib.Core.List.{List}
use Prim.Native.Nat.{ℕ, ◌+◌}
use lib.Dec.{eqb}
use lib.ListN.{get_or, set}
use borrow.Author.Tests.{eq-eqb, ne_eqb}
use Rattle.area.specs.Cells.{bucket_cell, symbol_cell, word}
use Rattle.sight.specs.Numbered.{with_number, seen_words, seen_count}

pub see_old :
    (w : List ℕ) (n a k : ℕ) {i : ℕ} → i ≡ symbol_cell n a 5 → (get_or w i 0 ≡ 0 → ⊥)
    → (w ≡ seen_words (word w (symbol_cell n a 5)) w n a k) × (k ≡ seen_count (word w (symbol_cell n a 5)) k)
unfolding word
see_old w n a k e h =
    let z : eqb (get_or w (symbol_cell n a 5) 0) 0 ≡ false = ne_eqb _ _ (λ q. h (ap (λ j. get_or w j 0) e ∙ q)) in
    rw z (refl, refl)

pub see_new :
    (w : List ℕ) (n a k : ℕ) {i b : ℕ} → i ≡ symbol_cell n a 5 → b ≡ bucket_cell n k → get_or w i 0 ≡ 0
    → (set (set w b a) i (k + 1) ≡ seen_words (word w (symbol_cell n a 5)) w n a k)
    × (k + 1 ≡ seen_count (word w (symbol_cell n a 5)) k)
unfolding word with_number
see_new w n a k e f h =
    let z : eqb (get_or w (symbol_cell n a 5) 0) 0 ≡ true = eq-eqb _ _ (ap (λ j. get_or w j 0) (sym e) ∙ h) in
    rw (z, e, f) (refl, refl)
