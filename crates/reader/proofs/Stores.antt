-- Words stored one after the other: those stored, those below, those above; a statement's row as seven of them.
-- Assumes nothing.
use mathlib.Core.Path.{◌≡◌, refl, ◌∙◌}
use mathlib.Core.List.{List, [], ◌∷◌}
use Prim.Native.Nat.{ℕ, zero, suc, ◌+◌, ◌<◌, ◌≤◌}
use native.Mathlib.Nat.{add-zero, add-suc, suc-add, not-suc-le-zero, le_of_suc-le-suc}
use native.Mathlib.Omega.{arith}
use lib.ListN.{length, get_or, set, length-set}
use lib.Seq.{sets}
use Rattle.area.specs.Cells.{statement_cell, word}
use Rattle.area.proofs.Laws.{word_same, word_other}
use Rattle.reader.specs.Kept.{with_row}
use Rattle.reader.specs.declared.state.Head.{Head}

pub stored_below : (l w : List ℕ) (i j : ℕ) → j < i → word (sets w i l) j ≡ word w j
stored_below [] w i j h = refl
stored_below (x ∷ l) w i j h = stored_below l (set w i x) (suc i) j (omega arith) ∙ word_other w i j x (λ q. omega (arith, q))

pub stored_above : (l w : List ℕ) (i j : ℕ) → i + length l ≤ j → word (sets w i l) j ≡ word w j
stored_above [] w i j h = refl
stored_above (x ∷ l) w i j h = stored_above l (set w i x) (suc i) j (omega arith) ∙ word_other w i j x (λ q. omega (arith, q))

pub stored_at : (l w : List ℕ) (i k : ℕ) → k < length l → i + length l ≤ length w → word (sets w i l) (i + k) ≡ get_or l k 0
stored_at [] w i k h m = absurd (not-suc-le-zero h)
stored_at (x ∷ l) w i zero h m =
    rw add-zero (stored_below l (set w i x) (suc i) i (omega arith) ∙ word_same w i x (omega arith))
stored_at (x ∷ l) w i (suc k) h m =
    rw (add-suc, ← suc-add) (stored_at l (set w i x) (suc i) k (le_of_suc-le-suc h) (simp length-set (omega arith)))

-- a row, cell by cell
pub row_sets : (w : List ℕ) (s k : ℕ) (h : Head) (to first count c₀ c₁ c₂ c₃ c₄ c₅ c₆ : ℕ)
    → c₀ ≡ statement_cell s 0 → c₁ ≡ statement_cell s 1 → c₂ ≡ statement_cell s 2 → c₃ ≡ statement_cell s 3
    → c₄ ≡ statement_cell s 4 → c₅ ≡ statement_cell s 5 → c₆ ≡ statement_cell s 6
    → set (set (set (set (set (set (set w c₀ k) c₁ h.at) c₂ h.label) c₃ h.from.at) c₄ to) c₅ first) c₆ count ≡ with_row w s k h to first count
unfolding with_row
row_sets w s k h to first count c₀ c₁ c₂ c₃ c₄ c₅ c₆ e₀ e₁ e₂ e₃ e₄ e₅ e₆ =
    let b = statement_cell s 0 in
    let p₁ : c₁ ≡ suc b = omega (arith, e₁) in
    let p₂ : c₂ ≡ suc (suc b) = omega (arith, e₂) in
    let p₃ : c₃ ≡ suc (suc (suc b)) = omega (arith, e₃) in
    let p₄ : c₄ ≡ suc (suc (suc (suc b))) = omega (arith, e₄) in
    let p₅ : c₅ ≡ suc (suc (suc (suc (suc b)))) = omega (arith, e₅) in
    let p₆ : c₆ ≡ suc (suc (suc (suc (suc (suc b))))) = omega (arith, e₆) in
    rw (e₀, p₁, p₂, p₃, p₄, p₅, p₆)
