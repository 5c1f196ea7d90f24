-- A variable that is bound starts where it was put, every other one where it did, and nothing else of the work area differs.
-- Assumes nothing.
use mathlib.Core.Path.{◌≡◌, ap, ◌∙◌}
use mathlib.Core.Logic.{◌≢◌}
use mathlib.Core.List.{List}
use Prim.Native.Nat.{ℕ, ◌/◌, ◌%◌, ◌<◌}
use native.Mathlib.Omega.{arith}
use lib.Dec.{eqb}
use lib.ListN.{set, length-set}
use Rattle.area.specs.Cells.{symbol_cell, word}
use Rattle.area.proofs.Laws.{word_same, word_other}
use Rattle.slots.specs.Kept.{Room, Kept}
use Rattle.slots.proofs.Kept.{kept_then, kept_symbol}
use Rattle.unify.specs.Bound.{start_of, with_start, constant_word}

module _ (w : List ℕ) (n a s : ℕ) (room : Room w n) (h : a < n) where
  pub start_kept : Kept n 12 12 3 6 w (with_start w n a s)
  unfolding with_start
  start_kept =
      let v = set w (symbol_cell n a 3) (s % 4294967296) in
      kept_then (kept_symbol n 3 6 w a 3 (s % 4294967296) h (omega arith) (omega arith) (omega arith))
      (kept_symbol n 3 6 v a 5 (s / 4294967296) h (omega arith) (omega arith) (omega arith))

  pub start_same : start_of (with_start w n a s) n a ≡ s
  unfolding start_of with_start
  start_same =
      let x = s % 4294967296 in
      let y = s / 4294967296 in
      let v = set w (symbol_cell n a 3) x in
      let low : word (set v (symbol_cell n a 5) y) (symbol_cell n a 3) ≡ x =
      word_other v (symbol_cell n a 5) (symbol_cell n a 3) y (λ e. omega (arith, e)) ∙ word_same w (symbol_cell n a 3) x (omega (arith, room.room)) in
      let high : word (set v (symbol_cell n a 5) y) (symbol_cell n a 5) ≡ y =
      word_same v (symbol_cell n a 5) y (omega (arith, room.room, length-set w (symbol_cell n a 3) x)) in
      rw (low, high) (omega arith)

  pub start_other : (b : ℕ) → b ≢ a → start_of (with_start w n a s) n b ≡ start_of w n b
  unfolding start_of with_start
  start_other b d =
      let x = s % 4294967296 in
      let y = s / 4294967296 in
      let v = set w (symbol_cell n a 3) x in
      let low : word (set v (symbol_cell n a 5) y) (symbol_cell n b 3) ≡ word w (symbol_cell n b 3) =
      word_other v (symbol_cell n a 5) (symbol_cell n b 3) y (λ e. omega (arith, e)) ∙ word_other w (symbol_cell n a 3) (symbol_cell n b 3) x (λ e. d (omega (arith, e))) in
      let high : word (set v (symbol_cell n a 5) y) (symbol_cell n b 5) ≡ word w (symbol_cell n b 5) =
      word_other v (symbol_cell n a 5) (symbol_cell n b 5) y (λ e. d (omega (arith, e))) ∙ word_other w (symbol_cell n a 3) (symbol_cell n b 5) x (λ e. omega (arith, e)) in
      rw (low, high)

  pub constant_kept : (b : ℕ) → b < n → constant_word (with_start w n a s) n b ≡ constant_word w n b
  unfolding constant_word
  constant_kept b k = ap (λ (z : ℕ). eqb (z % 2) 1) (start_kept.left b 1 k (omega arith) (omega arith))
