-- One name: its bytes as a part of the text, and what is written of it.
-- For the writers of a name and of a constant.
use mathlib.Core.Path.{◌≡◌, sym, ap, ◌∙◌}
use mathlib.Core.Bool.{true, false}
use mathlib.Core.List.{List}
use Prim.Native.Nat.{ℕ, ◌+◌, ◌-◌, ◌≤◌}
use native.Mathlib.Omega.{arith}
use lib.Dec.{eqb}
use lib.ListN.{length, length-take, length-drop}
use Rattle.paper.specs.Statements.{none_end}
use Rattle.paper.specs.Expressions.{raised, constant_in}
use Rattle.paper.specs.Records.{string}
use Rattle.paper.proofs.Tests.{split}
use Rattle.area.specs.Cells.{name_cell, symbol_cell, word}
use Rattle.stream.specs.Wrote.{Wrote}
use Rattle.stream.proofs.Raised.{length_raised}
use Rattle.stream.proofs.Wrote.{wrote_none, wrote_as}
use Rattle.forms.specs.Words.{name_bytes, word_symbol, constant_size, NameWords}

pub length_name : {t w : List ℕ} {n a : ℕ} → NameWords t w n a → length (name_bytes t w n a) ≡ word w (name_cell n a 1) - word w (name_cell n a 0)
unfolding name_bytes
length_name {t} {w} {n} {a} h = simp (length-take, length-drop) (omega (arith, h.order, h.within))

-- its bytes, as they are read
module _ {t w x : List ℕ} {n a : ℕ} (h : NameWords t w n a) (p : x ≡ name_bytes t w n a) where
  part_length : length x ≤ 16777216
  part_length = omega (arith, ap length p, length_name h, h.within, h.short)

  pub name_put : {b b' : List ℕ} {at r : ℕ} → (r ≡ at + 4 + length x) × Wrote b b' at r (string x)
      → (r ≤ at + 16777220) × Wrote b b' at r (string (name_bytes t w n a))
  name_put y = (omega (arith, y.0, part_length), wrote_as y.1 (ap string (sym p)))

  pub constant_put : {b b' : List ℕ} {at r : ℕ} → eqb (word w (symbol_cell n a 5)) none_end ≡ true
      → (r ≡ at + length x) × Wrote b b' at r (raised x)
      → (r ≤ at + 16777216) × Wrote b b' at r (constant_in (word_symbol t w n a))
  unfolding word_symbol
  constant_put e y = (omega (arith, y.0, part_length), wrote_as y.1 (rw e (ap raised (sym p))))

-- no constant
pub constant_none : (t w b : List ℕ) (n a at : ℕ) → eqb (word w (symbol_cell n a 5)) none_end ≡ false
    → (at ≤ at + 16777216) × Wrote b b at at (constant_in (word_symbol t w n a))
unfolding word_symbol
constant_none t w b n a at e = (omega arith, wrote_as (wrote_none b at) (rw e))

-- how many bytes a constant has
pub size_is : {t w : List ℕ} {n a : ℕ} → NameWords t w n a → constant_size w n a ≡ length (constant_in (word_symbol t w n a))
unfolding constant_size word_symbol
size_is {t} {w} {n} {a} h =
    split (eqb (word w (symbol_cell n a 5)) none_end)
    (λ e. rw e (sym (length_raised (name_bytes t w n a) ∙ length_name h)))
    (λ e. rw e)
