-- The walks over the math tokens of a row after the typecode, by the tokens done so far.
-- The constants are written, or their bytes counted.
use mathlib.Core.Path.{◌≡◌, refl, sym, ap, ◌∙◌}
use mathlib.Core.List.{List, [], ◌∷◌, ◌++◌}
use Prim.Native.Nat.{ℕ, zero, suc, ◌+◌, ◌-◌, ◌*◌, ◌<◌, ◌≤◌}
use native.Mathlib.Omega.{arith}
use native.Mathlib.Numerals.{add-one}
use lib.ListN.{length, length-append}
use Rattle.paper.specs.Base.{gather, table}
use Rattle.paper.specs.Expressions.{constant_in}
use Rattle.paper.proofs.Lists.{gather_append}
use Rattle.paper.proofs.Gather.{gather_one}
use Rattle.paper.proofs.Made.{table_more, gather_table}
use Rattle.area.specs.Cells.{statement_cell, word}
use Rattle.stream.specs.Wrote.{Wrote}
use Rattle.stream.proofs.Wrote.{wrote_none, wrote_then, wrote_as}
use Rattle.sight.specs.Sums.{sum}
use Rattle.sight.proofs.Sums.{sum_same}
use Rattle.forms.specs.Words.{atom_at, word_symbol, body_of, count_of, constants_to, constants_of, constant_size, sizes_to, RowWords}
use Rattle.forms.proofs.OneName.{size_is}

-- ---- one token more, after the first
table_from : {A : Type 0} (f : ℕ → A) (i : ℕ) → 1 ≤ i → table (λ j. f (j + 1)) (i + 1 - 1) ≡ table (λ j. f (j + 1)) (i - 1) ++ (f i ∷ [])
table_from f i h =
    let p : i + 1 - 1 ≡ i - 1 + 1 = omega arith in
    let q : i - 1 + 1 ≡ i = omega arith in
    rw p (table_more (λ j. f (j + 1)) (i - 1) ∙ ap (λ k. table (λ j. f (j + 1)) (i - 1) ++ (f k ∷ [])) q)

pub sum_from : (f : ℕ → ℕ) (i : ℕ) → 1 ≤ i → sum (λ j. f (j + 1)) (i + 1 - 1) ≡ sum (λ j. f (j + 1)) (i - 1) + f i
unfolding sum
sum_from f i h =
    let p : i + 1 - 1 ≡ suc (i - 1) = omega arith in
    let q : i - 1 + 1 ≡ i = omega arith in
    rw p (ap (λ k. sum (λ j. f (j + 1)) (i - 1) + f k) q)

module _ (t w : List ℕ) (n row i : ℕ) (h : 1 ≤ i) where
  pub body_more : body_of t w n row (i + 1) ≡ body_of t w n row i ++ (word_symbol t w n (atom_at w n row i) ∷ [])
  unfolding body_of
  body_more = table_from (λ j. word_symbol t w n (atom_at w n row j)) i h

  pub constants_more : constants_to t w n row (i + 1) ≡ constants_to t w n row i ++ constant_in (word_symbol t w n (atom_at w n row i))
  unfolding constants_to
  constants_more =
      let x = word_symbol t w n (atom_at w n row i) in
      ap (gather constant_in) body_more
      ∙ gather_append constant_in (body_of t w n row i) (x ∷ [])
      ∙ ap (λ r. gather constant_in (body_of t w n row i) ++ r) (gather_one constant_in x)

-- ---- the constants are written
pub record InvConstants (t w b₀ b : List ℕ) (n row at a i : ℕ) : Type 0 where
  pub few : a ≤ at + 16777216 * i
  pub wrote : Wrote b₀ b at a (constants_to t w n row i)

pub constants_begin : (t w b : List ℕ) (n row at : ℕ) → InvConstants t w b b n row at at 1
unfolding constants_to body_of table gather
constants_begin t w b n row at = record { few = omega arith; wrote = wrote_none b at }

pub constants_step : {t w b₀ b b' : List ℕ} {n row at a r i x : ℕ} → InvConstants t w b₀ b n row at a i → 1 ≤ i → x ≡ atom_at w n row i
    → (r ≤ a + 16777216) × Wrote b b' a r (constant_in (word_symbol t w n x)) → InvConstants t w b₀ b' n row at r (i + 1)
constants_step {t} {w} {n = n} {row = row} {i = i} h l e x =
    record {
      few = omega (arith, h.few, x.0);
      wrote = wrote_as (wrote_then h.wrote x.1)
          (constants_more t w n row i l ∙ ap (λ y. constants_to t w n row i ++ constant_in (word_symbol t w n y)) (sym e));
    }

pub constants_end : {t w b₀ b : List ℕ} {n row at a i : ℕ} → InvConstants t w b₀ b n row at a i → i ≡ count_of w row
    → (a ≤ at + 16777216 * count_of w row) × Wrote b₀ b at a (constants_of t w n row)
unfolding constants_of
constants_end {t} {w} {n = n} {row = row} h e =
    (omega (arith, h.few, e), wrote_as h.wrote (ap (constants_to t w n row) (sym e)))

-- ---- their bytes are counted
pub record InvSizes (w : List ℕ) (n row s i : ℕ) : Type 0 where
  pub few : s ≤ 16777216 * i
  pub is : s ≡ sizes_to w n row i

pub sizes_begin : (w : List ℕ) (n row : ℕ) → InvSizes w n row 0 1
unfolding sizes_to sum
sizes_begin w n row = record { few = omega arith; is = refl }

pub sizes_step : {w : List ℕ} {n row s r i x : ℕ} → InvSizes w n row s i → 1 ≤ i → x ≡ atom_at w n row i
    → (r ≤ 16777216) × (r ≡ constant_size w n x) → InvSizes w n row (s + r) (i + 1)
unfolding sizes_to
sizes_step {w} {n} {row} {s} {r} {i} h l e x =
    let z : r ≡ constant_size w n (atom_at w n row i) = x.1 ∙ ap (constant_size w n) e in
    record {
      few = omega (arith, h.few, x.0);
      is = omega (arith, h.is, z, sum_from (λ j. constant_size w n (atom_at w n row j)) i l);
    }

-- ---- and are as many as are written
pub sum_gather : {A B : Type 0} (g : A → List B) (f : ℕ → A) (k : ℕ) → sum (λ j. length (g (f j))) k ≡ length (gather g (table f k))
unfolding sum table gather
sum_gather g f zero = refl
sum_gather g f (suc k) =
    let e : length (gather g (table f (k + 1))) ≡ length (gather g (table f k)) + length (g (f k)) = ap length (gather_table g f k) ∙ length-append (gather g (table f k)) (g (f k)) in
    ap (λ r. r + length (g (f k))) (sum_gather g f k) ∙ sym e ∙ ap (λ r. length (gather g (table f r))) (add-one k)

module _ {t w : List ℕ} {n row : ℕ} (h : RowWords t w n row) where
  sizes_upto : (k : ℕ) → k < word w (statement_cell row 6)
      → sum (λ j. constant_size w n (atom_at w n row (j + 1))) k ≡ length (gather constant_in (table (λ j. word_symbol t w n (atom_at w n row (j + 1))) k))
  sizes_upto k l =
      sum_same (λ j. constant_size w n (atom_at w n row (j + 1))) (λ j. length (constant_in (word_symbol t w n (atom_at w n row (j + 1))))) k
      (λ j m. size_is (h.names (j + 1) (omega arith)))
      ∙ sum_gather constant_in (λ j. word_symbol t w n (atom_at w n row (j + 1))) k

  pub sizes_at : (k : ℕ) → k < word w (statement_cell row 6)
      → sizes_to w n row (k + 1) ≡ length (gather constant_in (table (λ j. word_symbol t w n (atom_at w n row (j + 1))) k))
  unfolding sizes_to
  sizes_at k l = let e : k + 1 - 1 ≡ k = omega arith in rw e (sizes_upto k l)

  pub sizes_are : sizes_to w n row (count_of w row) ≡ length (constants_of t w n row)
  unfolding sizes_to constants_of constants_to body_of
  sizes_are = sizes_upto (count_of w row - 1) (omega (arith, h.some))
