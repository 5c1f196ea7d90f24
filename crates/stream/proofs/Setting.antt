-- A bit set in bytes that are written: the buffer then holds the bytes with that bit, and so the rows with it.
-- For the writer of an assertion's rows.
use mathlib.Core.Path.{◌≡◌, sym, ap, ◌∙◌}
use mathlib.Core.Bool.{Bool, false}
use mathlib.Core.List.{List, [], ◌++◌}
use Prim.Native.Nat.{ℕ, suc, ◌+◌, ◌*◌, ◌/◌, ◌<◌, ◌≤◌}
use native.Mathlib.Nat.{mul-le-mul_right, suc-mul}
use native.Mathlib.Omega.{arith}
use lib.ListN.{length, get_or, take, drop, length-set}
use lib.Seq.{length-take-le}
use Rattle.paper.specs.Base.{gather}
use Rattle.paper.specs.Answer.{laid}
use Rattle.paper.specs.Records.{row_bytes}
use Rattle.stream.specs.Bits.{bit_at, with_bit}
use Rattle.stream.specs.Wrote.{Wrote}
use Rattle.stream.proofs.Wrote.{wrote_as}
use Rattle.stream.proofs.Rows.{bit_right, bit_left, with_right, with_left, row_width, Wide, lit_up, length_rows, bit_rows, set_rows}

pub length_with : (l : List ℕ) (at j : ℕ) → length (with_bit l at j) ≡ length l
unfolding with_bit
length_with l at j = length-set l (at + j / 8) _

module _ (l : List ℕ) (at : ℕ) (b : List ℕ) (p j : ℕ) (h : at ≤ length l) (k : p + j / 8 < length b) where
  bit_laid : bit_at (laid l at b) (at + p) j ≡ bit_at b p j
  unfolding laid
  bit_laid =
      let n : at ≡ length (take at l) = sym (length-take-le at l h) in
      let d = drop (at + length b) l in
      ap (λ (i : ℕ). bit_at (take at l ++ (b ++ d)) (i + p) j) n
      ∙ bit_right (take at l) (b ++ d) p j
      ∙ bit_left b d p j k

  with_laid : with_bit (laid l at b) (at + p) j ≡ laid l at (with_bit b p j)
  unfolding laid
  with_laid =
      let n : at ≡ length (take at l) = sym (length-take-le at l h) in
      let d = drop (at + length b) l in
      rw (length_with b p j)
      (ap (λ (i : ℕ). with_bit (take at l ++ (b ++ d)) (i + p) j) n
      ∙ with_right (take at l) (b ++ d) p j
      ∙ ap (λ (x : List ℕ). take at l ++ x) (with_left b d p j k))

module _ {l m : List ℕ} {at r : ℕ} {b : List ℕ} (w : Wrote l m at r b) (p j : ℕ) (k : p + j / 8 < length b) where
  -- a bit of the bytes that are written, read in the buffer
  pub wrote_bit : r ≤ length l → bit_at m (at + p) j ≡ bit_at b p j
  wrote_bit h = rw (w.bytes h) (bit_laid l at b p j (omega (arith, w.place)) k)

  -- and set there
  pub wrote_with : Wrote l (with_bit m (at + p) j) at r (with_bit b p j)
  wrote_with =
      record {
        place = w.place ∙ ap (λ (n : ℕ). at + n) (sym (length_with b p j));
        len = length_with m (at + p) j ∙ w.len;
        bytes = λ h. rw (w.bytes h) (with_laid l at b p j (omega (arith, w.place)) k);
      }

-- the same of rows of v bits: bit j of row i
module _ {l m : List ℕ} {at r : ℕ} (v : ℕ) (rows : List (List Bool)) (i j : ℕ) (w : Wrote l m at r (gather row_bytes rows)) (d : Wide v rows) (h : i < length rows) (k : j < v) where
  within : i * row_width v + j / 8 < length (gather row_bytes rows)
  within = omega (arith, length_rows v rows d, mul-le-mul_right {m = suc i} {n = length rows} (row_width v) h, suc-mul i (row_width v))

  pub wrote_row_bit : r ≤ length l → bit_at m (at + i * row_width v) j ≡ get_or (get_or rows i []) j false
  wrote_row_bit f = wrote_bit w (i * row_width v) j within f ∙ bit_rows v j k rows i d h

  pub wrote_row_set : Wrote l (with_bit m (at + i * row_width v) j) at r (gather row_bytes (lit_up rows i j))
  wrote_row_set = wrote_as (wrote_with w (i * row_width v) j within) (sym (set_rows v j k rows i d h))
