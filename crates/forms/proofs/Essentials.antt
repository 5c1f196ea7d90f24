-- The walks over the rows of the active `$e`, by the rows done so far, and the pool.
-- Rows rise, so no math token is counted twice: that bounds the places.
use mathlib.Core.Path.{◌≡◌, refl, sym, ap, ◌∙◌}
use mathlib.Core.List.{List, [], ◌∷◌, ◌++◌}
use Prim.Native.Nat.{ℕ, zero, suc, ◌+◌, ◌-◌, ◌*◌, ◌<◌, ◌≤◌}
use native.Mathlib.Omega.{arith}
use native.Mathlib.Numerals.{add-one}
use lib.ListN.{length, length-append}
use Rattle.paper.specs.Base.{gather}
use Rattle.paper.specs.Statements.{Statement}
use Rattle.paper.specs.Records.{u32, string}
use Rattle.paper.proofs.Lists.{gather_append}
use Rattle.paper.proofs.Gather.{gather_one}
use Rattle.area.specs.Cells.{statement_cell, word}
use Rattle.stream.specs.Wrote.{Wrote}
use Rattle.stream.proofs.Wrote.{wrote_none, wrote_then, wrote_as, wrote_to}
use Rattle.stream.proofs.Front.{wrote_front}
use Rattle.sight.specs.Sums.{sum}
use Rattle.sight.specs.Static.{stack}
use Rattle.forms.specs.Words.{count_of, constants_of, sizes_to, essential_row, stack_constants, stack_size, RowWords, Before, StackWords, SomeRow, SomeStack}
use Rattle.forms.specs.Ready.{Ready}
use Rattle.forms.specs.Puts.{PutStack, row_pool, PutPool}
use Rattle.forms.proofs.Read.{constants_are}
use Rattle.forms.proofs.Constants.{sizes_are}

module _ (w : List ℕ) (n k : ℕ) where
  constants_next : (t : List ℕ) → stack_constants t w n (k + 1) ≡ stack_constants t w n k ++ constants_of t w n (essential_row w k)
  unfolding stack_constants
  constants_next t = rw add-one

  size_next : stack_size w n (k + 1) ≡ stack_size w n k + sizes_to w n (essential_row w k) (count_of w (essential_row w k))
  unfolding stack_size sum
  size_next = rw add-one

-- the k-th row, as it is read
module _ {t w : List ℕ} {n es k x : ℕ} (h : StackWords t w n es) (l : k < es) (e : x ≡ essential_row w k) where
  pub stack_row : RowWords t w n x
  stack_row = rw e (h.rows k l)

  -- a place that bounds the rows before it
  pub stack_place : {a : ℕ} (at : ℕ) → ((c : ℕ) → Before w k c → a ≤ at + 16777216 * c) → a ≤ at + 16777216 * 16777217
  stack_place at f =
      omega (arith, f (word w (statement_cell (essential_row w k) 5)) (h.rises k l), (h.rows k l).tokens, h.small)

-- ---- the constants are written
pub record InvStack (t w b₀ b : List ℕ) (n at a k : ℕ) : Type 0 where
  pub few : (c : ℕ) → Before w k c → a ≤ at + 16777216 * c
  pub wrote : Wrote b₀ b at a (stack_constants t w n k)

pub stack_begin : (t w b : List ℕ) (n at : ℕ) → InvStack t w b b n at at 0
unfolding stack_constants
stack_begin t w b n at = record { few = λ c q. omega arith; wrote = wrote_none b at }

pub stack_step : {t w b₀ b b' : List ℕ} {n es at a r k x : ℕ} → StackWords t w n es → InvStack t w b₀ b n at a k → k < es → x ≡ essential_row w k
    → (r ≤ a + 16777216 * count_of w x) × Wrote b b' a r (constants_of t w n x) → InvStack t w b₀ b' n at r (k + 1)
stack_step {t} {w} {n = n} {a = a} {r = r} {k = k} g h l e x =
    let y : r ≤ a + 16777216 * count_of w (essential_row w k) = rw e at x.0 in
    record {
      few = λ c q. omega (arith, h.few (word w (statement_cell (essential_row w k) 5)) (g.rises k l), q k (omega arith), y);
      wrote = wrote_as (wrote_then h.wrote x.1)
          (constants_next w n k t ∙ ap (λ z. stack_constants t w n k ++ constants_of t w n z) (sym e));
    }

-- ---- their bytes are counted
pub record InvSize (w : List ℕ) (n s k : ℕ) : Type 0 where
  pub few : (c : ℕ) → Before w k c → s ≤ 0 + 16777216 * c
  pub is : s ≡ stack_size w n k

pub size_begin : (w : List ℕ) (n : ℕ) → InvSize w n 0 0
unfolding stack_size sum
size_begin w n = record { few = λ c q. omega arith; is = refl }

pub size_can : {w : List ℕ} {n es k x : ℕ} → SomeStack w n es → k < es → x ≡ essential_row w k → SomeRow w n x
size_can h l e = record { t = h.t; words = stack_row h.words l e }

pub size_step : {w : List ℕ} {n es s r k x : ℕ} → SomeStack w n es → InvSize w n s k → k < es → x ≡ essential_row w k
    → (r ≤ 16777216 * count_of w x) × (r ≡ sizes_to w n x (count_of w x)) → InvSize w n (s + r) (k + 1)
size_step {w} {n} {es} {s} {r} {k} {x} g h l e y =
    let p : r ≤ 16777216 * count_of w (essential_row w k) = rw e at y.0 in
    let q : r ≡ sizes_to w n (essential_row w k) (count_of w (essential_row w k)) = y.1 ∙ ap (λ z. sizes_to w n z (count_of w z)) e in
    record {
      few = λ c b. omega (arith, h.few (word w (statement_cell (essential_row w k) 5)) (g.words.rises k l), b k (omega arith), p);
      is = omega (arith, h.is, q, size_next w n k);
    }

-- ---- and are as many as are written
module _ {t w : List ℕ} {n es : ℕ} (h : StackWords t w n es) where
  size_upto : (k : ℕ) → k ≤ es → stack_size w n k ≡ length (stack_constants t w n k)
  unfolding stack_size stack_constants sum
  size_upto zero l = refl
  size_upto (suc k) l =
      omega (
        arith,
        size_upto k (omega arith),
        sizes_are (h.rows k (omega arith)),
        length-append (stack_constants t w n k) (constants_of t w n (essential_row w k)),
      )

  pub stack_sizes : stack_size w n es ≡ length (stack_constants t w n es)
  stack_sizes = size_upto es (omega arith)

-- ---- what they are
module _ {t w : List ℕ} {n : ℕ} {l : List Statement} {vs : List (List ℕ)} (r : Ready t w n l vs) where
  pub stack_is : (k : ℕ) → ((j : ℕ) → j < k → essential_row w j < length l) → stack_constants t w n k ≡ gather (row_pool l) (stack w 10 k)
  unfolding stack_constants stack gather
  stack_is zero h = refl
  stack_is (suc k) h =
      let x = essential_row w k in
      ap (λ z. z ++ constants_of t w n x) (stack_is k (λ j m. h j (omega arith)))
      ∙ ap (λ z. gather (row_pool l) (stack w 10 k) ++ z) (constants_are r x (h k (omega arith)) ∙ sym (gather_one (row_pool l) x))
      ∙ sym (gather_append (row_pool l) (stack w 10 k) (x ∷ []))

-- ---- the pool
module _ {t w : List ℕ} {n es row : ℕ} (g : StackWords t w n es) (h : RowWords t w n row) (o : Before w es (word w (statement_cell row 5))) where
  pub pool_put : {b b₁ b₂ b₃ : List ℕ} {at q r v : ℕ} → PutStack t w n es b b₁ (at + 4) q
      → (r ≤ q + 16777216 * count_of w row) × Wrote b₁ b₂ q r (constants_of t w n row)
      → (v ≡ at + 4) × Wrote b₂ b₃ at v (u32 (r - (at + 4)))
      → PutPool t w n es row b b₃ at r
  unfolding string
  pool_put {at = at} {q = q} {r = r} s c a =
      let z : r - (at + 4) ≡ length (stack_constants t w n es ++ constants_of t w n row) =
      omega (arith, s.wrote.place, c.1.place, length-append (stack_constants t w n es) (constants_of t w n row)) in
      record {
        few = omega (arith, s.few (word w (statement_cell row 5)) o, c.0, h.tokens);
        sim = λ l vs m k j.
            wrote_as (wrote_front (wrote_then s.wrote c.1) (wrote_to (wrote_as a.1 (ap u32 (sym z))) (sym a.0)))
            (ap string (ap (λ e. e ++ row_pool l row) (sym (stack_is m es j)) ∙ ap (λ e. stack_constants t w n es ++ e) (sym (constants_are m row k))));
      }
