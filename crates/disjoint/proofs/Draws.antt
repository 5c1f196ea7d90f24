-- The walks that draw: what holds before, after each step and at the end of each.
-- The proofs of the functions cite these.
use mathlib.Core.Path.{◌≡◌, refl, sym, ap, ◌∙◌}
use mathlib.Core.Bool.{true, false}
use mathlib.Core.List.{List, [], ◌∷◌, ◌++◌, map, append_assoc, append-nil}
use Prim.Native.Nat.{ℕ, ◌+◌, ◌-◌, ◌*◌, ◌<◌, ◌≤◌, ◌^◌}
use native.Mathlib.Nat.{mul-le-mul_right}
use native.Mathlib.Numerals.{add-one}
use native.Mathlib.Omega.{arith}
use lib.Dec.{ltb}
use lib.ListN.{length, get_or, drop, drop_of_length-le}
use lib.Seq.{drop-cons}
use borrow.Author.Tests.{lt-ltb, le-ltb}
use Rattle.paper.specs.Base.{gather}
use Rattle.paper.specs.Pairs.{Pair, pair, pairs_in}
use Rattle.paper.specs.Records.{u16}
use Rattle.area.specs.Cells.{statement_cell, word}
use Rattle.sight.specs.Static.{stack}
use Rattle.sight.proofs.Stacks.{stack_length, stack_at}
use Rattle.stream.specs.Bits.{bit_at, with_bit}
use Rattle.stream.specs.Wrote.{Wrote}
use Rattle.stream.proofs.Setting.{length_with}
use Rattle.disjoint.specs.declared.draw.Grid.{Grid}
use Rattle.disjoint.specs.Found.{both}
use Rattle.disjoint.specs.Words.{number_at, first_of, count_of, numbers, listed}
use Rattle.disjoint.specs.Drawn.{CanDraw, Drew, pairs_at, CanDrawAt, CanDrawRow, CanDrawAll}
use Rattle.disjoint.proofs.Words.{length_numbers, number_next}
use Rattle.disjoint.proofs.Drawn.{draw_beyond, draw_old, draw_out, draw_in, place_below}
use Rattle.disjoint.proofs.Bools.{and_false}

-- ---- one walk after another
pub drew_none : (b : List ℕ) (g : Grid) (p : ℕ) (l : List Pair) → Drew b b g p p l l
drew_none b g p l = record { len = refl; sim = λ a from v s rest d. d }

pub drew_as :
    {b c : List ℕ} {g : Grid} {p q : ℕ} {l r : List Pair} (k : List Pair) → Drew b c g p q l r → r ≡ k → Drew b c g p q l k
drew_as k x e = rw (← e) x

pub drew_then :
    {b c d : List ℕ} {g : Grid} {p q o : ℕ} {l : List Pair} (k r : List Pair) → Drew b c g p q l (k ++ r) → Drew c d g q o k []
    → Drew b d g p o l r
drew_then k r x y =
    record {
      len = y.len ∙ x.len;
      sim = λ a from v s rest e. y.sim a from v s (r ++ rest) (rw (← append_assoc k r rest) (x.sim a from v s rest e));
    }

pub can_next :
    {b c : List ℕ} {g : Grid} {p q : ℕ} {l : List Pair} (k r : List Pair) → CanDraw b g p l → Drew b c g p q l (k ++ r)
    → CanDraw c g q k
can_next k r x y =
    record {
      a = x.a;
      from = x.from;
      v = x.v;
      s = x.s;
      rest = r ++ x.rest;
      drawing = rw (← append_assoc k r x.rest) (y.sim x.a x.from x.v x.s x.rest x.drawing);
    }

-- ---- one pair
-- no sum wraps
pub record PairFits (x y w at p : ℕ) : Type 0 where
  pub left : x * w ≤ 2096640
  pub right : y * w ≤ 2096640
  pub low : x ≤ 4095
  pub high : y ≤ 4095
  pub below : at ≤ p
  pub place : p < 2 ^ 60

pub pair_fits :
    {b : List ℕ} {g : Grid} {at x y : ℕ} → CanDraw b g at (pair x y ∷ []) → x < g.size → y < g.size → PairFits x y g.width at g.at
pair_fits {b} {g} {at} {x} {y} c l r =
    let d = c.drawing in
    let w : g.width ≤ 512 = omega (arith, d.width, d.few) in
    let i : x ≤ 4095 = omega (arith, l, d.size, d.few) in
    let j : y ≤ 4095 = omega (arith, r, d.size, d.few) in
    record {
      left = omega (arith, mul-le-mul_right {m = x} {n = 4095} g.width i);
      right = omega (arith, mul-le-mul_right {m = y} {n = 4095} g.width j);
      low = i;
      high = j;
      below = place_below x y c.rest d;
      place = d.place;
    }

-- a variable without a row
module _ (b : List ℕ) (g : Grid) (p x y : ℕ) where
  pub drew_beyond_left : g.size ≤ x → Drew b b g p p (pair x y ∷ []) []
  drew_beyond_left h =
      record { len = refl; sim = λ a from v s rest d. draw_beyond x y rest d (rw (le-ltb x v (omega (arith, h, d.size)))) }

  pub drew_beyond_right : g.size ≤ y → Drew b b g p p (pair x y ∷ []) []
  drew_beyond_right h =
      record {
        len = refl;
        sim = λ a from v s rest d. draw_beyond x y rest d (rw (le-ltb y v (omega (arith, h, d.size))) (and_false (ltb x v)));
      }

drew_beyond_all : (b : List ℕ) (g : Grid) (p x : ℕ) (l : List ℕ) → g.size ≤ x → Drew b b g p p (map (pair x) l) []
drew_beyond_all b g p x [] h = drew_none b g p []
drew_beyond_all b g p x (y ∷ l) h =
    let r = map (pair x) l in
    let z : Drew b b g p p (pair x y ∷ r) r = drew_then (pair x y ∷ []) r (drew_none b g p (pair x y ∷ r)) (drew_beyond_left b g p x y h) in
    drew_then r [] (drew_as (r ++ []) z (sym (append-nil r))) (drew_beyond_all b g p x l h)

module _ (b : List ℕ) (g : Grid) (p x y : ℕ) (left : x < g.size) (right : y < g.size) where
  pub drew_old : {i : ℕ} → i ≡ g.at + x * g.width → bit_at b i y ≡ true → Drew b b g p p (pair x y ∷ []) []
  drew_old m e = record { len = refl; sim = λ a from v s rest d. draw_old x y rest d (omega (arith, left, d.size)) (omega (arith, right, d.size)) (rw m at e) }

  -- i and j are where their rows begin
  module _ {i j : ℕ} (m : i ≡ g.at + x * g.width) (k : j ≡ g.at + y * g.width) (q : bit_at b i y ≡ false) {c o : List ℕ} (f : c ≡ with_bit b i y) (h : o ≡ with_bit c j x) where
    e : bit_at b (g.at + x * g.width) y ≡ false
    e = rw m at q

    both_bits : o ≡ with_bit (with_bit b (g.at + x * g.width) y) (g.at + y * g.width) x
    both_bits = h ∙ ap (λ t. with_bit t j x) f ∙ rw (m, k)

    size : length o ≡ length b
    size = rw both_bits (length_with (with_bit b (g.at + x * g.width) y) (g.at + y * g.width) x ∙ length_with b (g.at + x * g.width) y)

    out : both g.mandatory (pair x y) ≡ false → Drew b o g p p (pair x y ∷ []) []
    out q = record { len = size; sim = λ a from v s rest d. draw_out x y rest d (omega (arith, left, d.size)) (omega (arith, right, d.size)) e both_bits q }

    pub drew_left : g.mandatory ≤ x → Drew b o g p p (pair x y ∷ []) []
    drew_left q = out (rw (le-ltb x g.mandatory q))

    pub drew_right : g.mandatory ≤ y → Drew b o g p p (pair x y ∷ []) []
    drew_right q = out (rw (le-ltb y g.mandatory q) (and_false (ltb x g.mandatory)))

    pub drew_both :
        {z u : List ℕ} {q r : ℕ} → x < g.mandatory → y < g.mandatory → Wrote o z p q (u16 x) → Wrote z u q r (u16 y)
        → Drew b u g p r (pair x y ∷ []) []
    drew_both i j k l =
        record {
          len = l.len ∙ k.len ∙ size;
          sim = λ a from v s rest d.
              draw_in x y rest d (omega (arith, left, d.size)) (omega (arith, right, d.size)) e both_bits (rw (lt-ltb x g.mandatory i, lt-ltb y g.mandatory j)) k l;
        }

-- ---- the i-th number of a row with those right of it
pub record InvAt (w b₀ b : List ℕ) (n row i : ℕ) (g : Grid) (p q x j : ℕ) : Type 0 where
  pub drew : Drew b₀ b g p q (pairs_at (numbers w n row) i) (map (pair x) (drop j (numbers w n row)))

pub at_begin :
    (w b : List ℕ) (n row i : ℕ) (g : Grid) (p : ℕ) {f x : ℕ} → i < count_of w row → f ≡ first_of w row
    → x ≡ number_at w n (f + i) - 1 → InvAt w b b n row i g p p x (i + 1)
at_begin w b n row i g p {f} {x} h e d =
    let q : x ≡ get_or (numbers w n row) i 0 = number_next w n row i x h (rw e at d) in
    record { drew = drew_as _ (drew_none b g p (pairs_at (numbers w n row) i)) (ap (λ t. map (pair t) (drop (i + 1) (numbers w n row))) (sym q)) }

-- it has no row
pub at_beyond :
    (w b : List ℕ) (n row i : ℕ) (g : Grid) (p : ℕ) {f x : ℕ} → i < count_of w row → f ≡ first_of w row
    → x ≡ number_at w n (f + i) - 1 → g.size ≤ x → Drew b b g p p (pairs_at (numbers w n row) i) []
at_beyond w b n row i g p {f} {x} h e d l =
    let q : x ≡ get_or (numbers w n row) i 0 = number_next w n row i x h (rw e at d) in
    rw q at (drew_beyond_all b g p x (drop (i + 1) (numbers w n row)) l)

module _ {w b₀ b : List ℕ} {n row i : ℕ} {g : Grid} {p q x j f k y : ℕ} (h : InvAt w b₀ b n row i g p q x j) (e : f ≡ first_of w row) (c : k ≡ count_of w row) where
  next_is : j < k → y ≡ number_at w n (f + j) - 1 → map (pair x) (drop j (numbers w n row)) ≡ (pair x y ∷ []) ++ map (pair x) (drop (j + 1) (numbers w n row))
  next_is l d =
      let z : y ≡ get_or (numbers w n row) j 0 = number_next w n row j y (omega (arith, c)) (rw e at d) in
      rw (drop-cons (numbers w n row) j 0 (omega (arith, c, length_numbers w n row)), z, add-one j)

  pub at_can : CanDraw b₀ g p (pairs_at (numbers w n row) i) → j < k → y ≡ number_at w n (f + j) - 1 → CanDraw b g q (pair x y ∷ [])
  at_can a l d = can_next (pair x y ∷ []) (map (pair x) (drop (j + 1) (numbers w n row))) a (drew_as _ h.drew (next_is l d))

  pub at_step : {o : List ℕ} {r : ℕ} → j < k → y ≡ number_at w n (f + j) - 1 → Drew b o g q r (pair x y ∷ []) [] → InvAt w b₀ o n row i g p r x (j + 1)
  at_step l d z =
      record { drew = drew_then (pair x y ∷ []) (map (pair x) (drop (j + 1) (numbers w n row))) (drew_as _ h.drew (next_is l d)) z }

pub at_end :
    {w b₀ b : List ℕ} {n row i : ℕ} {g : Grid} {p q x j k : ℕ} → InvAt w b₀ b n row i g p q x j → k ≡ count_of w row → k ≤ j
    → Drew b₀ b g p q (pairs_at (numbers w n row) i) []
at_end {w} {n = n} {row = row} {x = x} {j = j} h c l =
    drew_as [] h.drew (ap (map (pair x)) (drop_of_length-le (numbers w n row) {i = j} (omega (arith, c, length_numbers w n row))))

-- ---- the pairs of a row
pub record InvRowDrawn (w b₀ b : List ℕ) (n row : ℕ) (g : Grid) (p q i : ℕ) : Type 0 where
  pub drew : Drew b₀ b g p q (pairs_in (numbers w n row)) (pairs_in (drop i (numbers w n row)))

pub row_drawn_begin : (w b : List ℕ) (n row : ℕ) (g : Grid) (p : ℕ) → InvRowDrawn w b b n row g p p 0
row_drawn_begin w b n row g p = record { drew = drew_none b g p (pairs_in (numbers w n row)) }

module _ {w b₀ b : List ℕ} {n row : ℕ} {g : Grid} {p q i k : ℕ} (h : InvRowDrawn w b₀ b n row g p q i) (c : k ≡ count_of w row) where
  row_next : i < k → pairs_in (drop i (numbers w n row)) ≡ pairs_at (numbers w n row) i ++ pairs_in (drop (i + 1) (numbers w n row))
  unfolding pairs_in
  row_next l = rw (drop-cons (numbers w n row) i 0 (omega (arith, c, length_numbers w n row)), add-one i)

  pub row_drawn_can : CanDrawRow w b₀ n row g p → i < k → CanDrawAt w b n row i g q
  row_drawn_can a l =
      record {
        walk = a.walk;
        here = omega (arith, c);
        draw = can_next (pairs_at (numbers w n row) i) (pairs_in (drop (i + 1) (numbers w n row))) a.draw (drew_as _ h.drew (row_next l));
      }

  pub row_drawn_step : {o : List ℕ} {r : ℕ} → i < k → Drew b o g q r (pairs_at (numbers w n row) i) [] → InvRowDrawn w b₀ o n row g p r (i + 1)
  row_drawn_step l z =
      record {
        drew = drew_then (pairs_at (numbers w n row) i) (pairs_in (drop (i + 1) (numbers w n row))) (drew_as _ h.drew (row_next l)) z;
      }

  pub row_drawn_end : k ≤ i → Drew b₀ b g p q (pairs_in (numbers w n row)) []
  unfolding pairs_in
  row_drawn_end l =
      drew_as [] h.drew (ap pairs_in (drop_of_length-le (numbers w n row) {i = i} (omega (arith, c, length_numbers w n row))))

-- ---- the pairs of the rows on the stack
-- the rows from the k-th on
unfoldable pub listed_from : List ℕ → ℕ → ℕ → ℕ → List Pair
listed_from w n d k = gather (λ r. pairs_in (numbers w n r)) (drop k (stack w 11 d))

pub record InvAllDrawn (w b₀ b : List ℕ) (n d : ℕ) (g : Grid) (p q k : ℕ) : Type 0 where
  pub drew : Drew b₀ b g p q (listed w n d) (listed_from w n d k)

pub all_drawn_begin : (w b : List ℕ) (n d : ℕ) (g : Grid) (p : ℕ) → InvAllDrawn w b b n d g p p 0
unfolding listed listed_from
all_drawn_begin w b n d g p = record { drew = drew_none b g p (listed w n d) }

module _ {w b₀ b : List ℕ} {n d : ℕ} {g : Grid} {p q k : ℕ} (h : InvAllDrawn w b₀ b n d g p q k) where
  rows_next : {r : ℕ} → k < d → r ≡ word w (statement_cell k 11) → listed_from w n d k ≡ pairs_in (numbers w n r) ++ listed_from w n d (k + 1)
  unfolding listed_from gather
  rows_next l e = rw (drop-cons (stack w 11 d) k 0 (omega (arith, stack_length w 11 d)), stack_at w 11 d k l, e, add-one k)

  pub all_drawn_can : {r : ℕ} → CanDrawAll w b₀ n d g p → k < d → r ≡ word w (statement_cell k 11) → CanDrawRow w b n r g q
  all_drawn_can {r} a l e =
      record {
        walk = record {
          v = a.walk.v;
          buckets = a.walk.stacked.buckets;
          mandatory = a.walk.mandatory;
          row = rw e (a.walk.stacked.row k l);
        };
        draw = can_next (pairs_in (numbers w n r)) (listed_from w n d (k + 1)) a.draw (drew_as _ h.drew (rows_next l e));
      }

  pub all_drawn_step :
      {o : List ℕ} {r u : ℕ} → k < d → r ≡ word w (statement_cell k 11) → Drew b o g q u (pairs_in (numbers w n r)) []
      → InvAllDrawn w b₀ o n d g p u (k + 1)
  all_drawn_step {r = r} l e z =
      record { drew = drew_then (pairs_in (numbers w n r)) (listed_from w n d (k + 1)) (drew_as _ h.drew (rows_next l e)) z }

  pub all_drawn_end : d ≤ k → Drew b₀ b g p q (listed w n d) []
  unfolding listed_from gather
  all_drawn_end l =
      drew_as [] h.drew
      (ap (gather (λ r. pairs_in (numbers w n r))) (drop_of_length-le (stack w 11 d) {i = k} (omega (arith, stack_length w 11 d))))
