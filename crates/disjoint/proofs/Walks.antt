-- The walks of the count: what holds before, after each step and at the end of each.
-- The proofs of the functions cite these.
use mathlib.Core.Path.{◌≡◌, refl, sym, ap, ◌∙◌}
use mathlib.Core.Bool.{Bool, true, false}
use mathlib.Core.List.{List, [], ◌∷◌, map}
use Prim.Native.Nat.{ℕ, suc, ◌+◌, ◌-◌, ◌*◌, ◌<◌, ◌≤◌}
use native.Mathlib.Omega.{arith}
use lib.Dec.{eqb, ltb}
use lib.ListN.{length, get_or, take, set, length-set}
use lib.Seq.{take-length, ext_get_or}
use borrow.Author.Tests.{lt-ltb, le-ltb, le-leb, lt-leb, eq-eqb, ne_eqb, eqb-true}
use Rattle.std.specs.Int.{from_bool}
use Rattle.std.specs.List.{list_any, range_with_len}
use Rattle.std.proofs.lemmas.List.FromFn.{length-map-range_with_len, get_or-map-range_with_len}
use Rattle.paper.proofs.Tests.{split, eqb_ne}
use Rattle.paper.specs.Base.{and, or, any, gather}
use Rattle.paper.specs.Pairs.{pairs_in}
use Rattle.area.specs.Cells.{statement_cell, bucket_cell, symbol_cell, math_cell, word}
use Rattle.area.proofs.Laws.{word_other}
use Rattle.sight.specs.Static.{stack}
use Rattle.sight.specs.Sums.{sum, one}
use Rattle.disjoint.specs.Found.{has, rising, partners}
use Rattle.disjoint.specs.Words.{atom_at, number_at, first_of, count_of, number_of, numbers, listed, TokenNumbered, RowNumbered, Buckets}
use Rattle.disjoint.specs.Marks.{mark_cell, mark, Remarked, Marks, CanMark, fresh, MarksOne, CanMarkRow, above, CanCountOf, CountsOf, CanCountAll, CountsAll, CanClear, ClearsMarks, PairCount}
use Rattle.disjoint.proofs.Words.{length_numbers, numbers_at, listed_more, statement_kept, bucket_kept, cell_kept, buckets_kept, number_of_kept, numbers_kept, row_kept, stacked_kept, listed_kept}
use Rattle.disjoint.proofs.Marks.{remarked_none, remarked_then, tally_few, marks_none, marks_as, marks_then, marks_one, above_more, rising_row, rising_append, rising_none, turn_count, clear_next, clear_end}
use Rattle.disjoint.proofs.Bools.{and_false}

-- ---- one token: its atom, its number, and whether it is marked
module _ (w : List ℕ) (n t : ℕ) where
  pub atom_below : {a : ℕ} → a ≡ word w (math_cell n t) → TokenNumbered w n t → a < n
  unfolding atom_at
  atom_below e x = rw e x.atom

  pub read_number : {a k : ℕ} → a ≡ word w (math_cell n t) → k ≡ word w (symbol_cell n a 5) → k ≡ number_at w n t
  unfolding number_at atom_at
  read_number e d = d ∙ ap (λ a. word w (symbol_cell n a 5)) e

  module _ (m u : ℕ) {a k : ℕ} (e : a ≡ word w (math_cell n t)) (d : k ≡ word w (symbol_cell n a 5)) where
    stays : fresh w n m t u ≡ false → MarksOne w w n m t u 0
    stays q = record { words = rw q; count = rw q }

    pub one_low : k ≤ u + 1 → MarksOne w w n m t u 0
    unfolding fresh
    one_low h = stays (rw (← read_number e d, le-ltb (u + 1) k h))

    pub one_high : u + 1 < k → m < k → MarksOne w w n m t u 0
    unfolding fresh
    one_high h l = stays (rw (← read_number e d, lt-ltb (u + 1) k h, lt-leb k m l))

    module _ {x : ℕ} (p : x ≡ word w (symbol_cell n a 6)) (h : u + 1 < k) (l : k ≤ m) where
      mark_read : word w (symbol_cell n (atom_at w n t) 6) ≡ x
      unfolding atom_at
      mark_read = sym (p ∙ ap (λ c. word w (symbol_cell n c 6)) e)

      pub one_old : x ≡ u + 1 → MarksOne w w n m t u 0
      unfolding fresh
      one_old q = stays (rw (← read_number e d, lt-ltb (u + 1) k h, le-leb k m l, mark_read, eq-eqb x (u + 1) q))

      pub one_new : {v : List ℕ} → (x ≡ u + 1 → ⊥) → v ≡ set w (symbol_cell n a 6) (u + 1) → MarksOne w v n m t u 1
      unfolding fresh atom_at
      one_new q y =
          let f : fresh w n m t u ≡ true =
          rw (← read_number e d, lt-ltb (u + 1) k h, le-leb k m l, mark_read, ne_eqb x (u + 1) q) in
          record { words = rw f (y ∙ ap (λ c. set w (symbol_cell n c 6) (u + 1)) e); count = rw f }

-- ---- the tokens of a row, as they are read
pub token_here :
    {w : List ℕ} {n v r f k t : ℕ} (i : ℕ) → RowNumbered w n v r → f ≡ first_of w r → k ≡ count_of w r → i < k → t ≡ f + i
    → TokenNumbered w n t
token_here i x p q l e = rw (e, p) (x.token i (omega (arith, q)))

-- u is looked for among the numbers as they are read
looked_for : (u : ℕ) (f : ℕ → ℕ) (l : List ℕ) → list_any (λ i. eqb (f i) u) l ≡ any (eqb u) (map f l)
unfolding any
looked_for u f [] = refl
looked_for u f (i ∷ l) =
    split (eqb (f i) u)
    (λ q. rw (q, eq-eqb u (f i) (sym (eqb-true (f i) u q))))
    (λ q. rw (q, ne_eqb u (f i) (λ e. eqb_ne {x = f i} {y = u} q (sym e))) (looked_for u f l))

pub names_any :
    (w : List ℕ) (n r u : ℕ) {f k : ℕ} → f ≡ first_of w r → k ≡ count_of w r
    → list_any (λ i. eqb (number_at w n (f + i) - 1) u) (range_with_len 0 k) ≡ has u (numbers w n r)
unfolding has number_of
names_any w n r u {f} {k} p q =
    looked_for u (λ i. number_at w n (f + i) - 1) (range_with_len 0 k)
    ∙ ap (any (eqb u))
    (ext_get_or 0 (map (λ i. number_at w n (f + i) - 1) (range_with_len 0 k)) (numbers w n r)
    (length-map-range_with_len (λ i. number_at w n (f + i) - 1) 0 k ∙ q ∙ sym (length_numbers w n r))
    (λ i l.
    let h : i < k = omega (arith, l, length-map-range_with_len (λ i. number_at w n (f + i) - 1) 0 k) in
    get_or-map-range_with_len (λ i. number_at w n (f + i) - 1) 0 k i i 0 h (omega arith)
    ∙ ap (λ t. number_at w n (t + i) - 1) p
    ∙ sym (numbers_at w n r i (omega (arith, q)))))

-- ---- the tokens of a row, marked
one_number : (c : Bool) → one c ≡ from_bool c
one_number true = refl
one_number false = refl

pub record InvRow (w₀ w : List ℕ) (n m r u s i : ℕ) : Type 0 where
  pub marks : Marks w₀ w n m u (above (take i (numbers w₀ n r)) u) s
  pub upto : i ≤ count_of w₀ r

pub row_begin : (w : List ℕ) (n m r u : ℕ) → InvRow w w n m r u 0 0
unfolding has any
row_begin w n m r u =
    record {
      marks = marks_none w n m u _ (λ k l. and_false (ltb u k));
      upto = omega arith;
    }

module _ {w₀ w : List ℕ} {n m r u s i f k : ℕ} (a : CanMarkRow w₀ n m r u) (h : InvRow w₀ w n m r u s i) (p : f ≡ first_of w₀ r) (q : k ≡ count_of w₀ r) where
  now : RowNumbered w n a.walk.v r
  now = row_kept a.walk.buckets a.walk.mandatory h.marks.kept r a.walk.row

  first_now : first_of w r ≡ first_of w₀ r
  first_now = statement_kept a.walk.buckets a.walk.mandatory h.marks.kept r 5 a.walk.row.here (omega arith)

  count_now : count_of w r ≡ count_of w₀ r
  count_now = statement_kept a.walk.buckets a.walk.mandatory h.marks.kept r 6 a.walk.row.here (omega arith)

  pub row_can : {t : ℕ} → i < k → t ≡ f + i → CanMark w n m t u
  row_can l e =
      record {
        room = (buckets_kept a.walk.buckets a.walk.mandatory h.marks.kept).room;
        token = token_here i now (p ∙ sym first_now) (q ∙ sym count_now) l e;
        turn = omega (arith, a.turn, a.walk.mandatory, a.walk.buckets.few);
      }

  pub row_few : s ≤ 4095
  row_few = omega (arith, h.marks.count, tally_few w n m u, a.walk.mandatory, a.walk.buckets.few)

  pub row_step :
      {v : List ℕ} {t x : ℕ} (c : Bool) → i < k → t ≡ f + i → x ≡ from_bool c → MarksOne w v n m t u (one c)
      → InvRow w₀ v n m r u (s + x) (i + 1)
  row_step {v} {t} {x} c l d o y =
      let b = a.walk.buckets in
      let g = a.walk.mandatory in
      let e : i < count_of w₀ r = omega (arith, q) in
      let z : number_of w n r i ≡ get_or (numbers w₀ n r) i 0 =
      number_of_kept b g h.marks.kept r a.walk.row i ∙ sym (numbers_at w₀ n r i e) in
      let o : MarksOne w v n m (first_of w r + i) u x = rw (first_now, ← p, ← d, o, ← one_number c) y in
      let j : Marks w v n m u (λ c. and (ltb u c) (eqb c (number_of w n r i))) x =
      marks_one now (rw count_now e) (buckets_kept b g h.marks.kept) g o in
      record {
        marks = marks_as (marks_then b g h.marks j) (above (take (i + 1) (numbers w₀ n r)) u)
            (λ c d. above_more (numbers w₀ n r) i u c (omega (arith, length_numbers w₀ n r))
            ∙ ap (λ t. or (above (take i (numbers w₀ n r)) u c) (and (ltb u c) (eqb c t))) (sym z));
        upto = omega (arith, q);
      }

  pub row_end : k ≤ i → Marks w₀ w n m u (above (numbers w₀ n r) u) s
  row_end l =
      let e : i ≡ length (numbers w₀ n r) = omega (arith, q, h.upto, length_numbers w₀ n r) in
      let z : take i (numbers w₀ n r) ≡ numbers w₀ n r = rw e (take-length (numbers w₀ n r)) in
      rw z at h.marks

-- ---- a row in which u is, and one in which it is not
pub with_yes :
    {w v : List ℕ} {n m u r : ℕ} (l : List ℕ) → true ≡ has u l → Marks w v n m u (above l u) r
    → Marks w v n m u (rising (pairs_in l) u) r
with_yes {u = u} l e x = marks_as x (rising (pairs_in l) u) (λ k g. rising_row l u k ∙ rw (← e))

pub with_no : (w : List ℕ) (n m u : ℕ) (l : List ℕ) → false ≡ has u l → Marks w w n m u (rising (pairs_in l) u) 0
with_no w n m u l e = marks_none w n m u (rising (pairs_in l) u) (λ k g. rising_row l u k ∙ rw (← e))

-- ---- the rows on the stack, in the turn of u
pub record InvOf (w₀ w : List ℕ) (n m d u s k : ℕ) : Type 0 where
  pub marks : Marks w₀ w n m u (rising (listed w₀ n k) u) s
  pub upto : k ≤ d

pub of_begin : (w : List ℕ) (n m d u : ℕ) → InvOf w w n m d u 0 0
unfolding listed stack gather
of_begin w n m d u =
    record { marks = marks_none w n m u (rising [] u) (λ k l. rising_none u k); upto = omega arith }

module _ {w₀ w : List ℕ} {n m d u s k : ℕ} (a : CanCountOf w₀ n m d u) (h : InvOf w₀ w n m d u s k) where
  pub of_room : k < d → Buckets w n a.walk.v × (3 * k + 3 ≤ n)
  of_room l =
      (buckets_kept a.walk.stacked.buckets a.walk.mandatory h.marks.kept, omega (arith, a.walk.stacked.depth))

  row_is : k < d → {r : ℕ} → r ≡ word w (statement_cell k 11) → r ≡ word w₀ (statement_cell k 11)
  row_is l e =
      e ∙ statement_kept a.walk.stacked.buckets a.walk.mandatory h.marks.kept k 11 (omega (arith, a.walk.stacked.depth)) (omega arith)

  pub of_can : {r : ℕ} → k < d → r ≡ word w (statement_cell k 11) → CanMarkRow w n m r u
  of_can {r} l e =
      let b = a.walk.stacked.buckets in
      let g = a.walk.mandatory in
      record {
        walk = record {
          v = a.walk.v;
          buckets = buckets_kept b g h.marks.kept;
          mandatory = g;
          row = rw (row_is l e) (row_kept b g h.marks.kept (word w₀ (statement_cell k 11)) (a.walk.stacked.row k l));
        };
        turn = a.turn;
      }

  pub of_few : s ≤ 4095
  of_few = omega (arith, h.marks.count, tally_few w n m u, a.walk.mandatory, a.walk.stacked.buckets.few)

  pub of_step :
      {v : List ℕ} {r x : ℕ} → k < d → r ≡ word w (statement_cell k 11)
      → Marks w v n m u (rising (pairs_in (numbers w n r)) u) x → InvOf w₀ v n m d u (s + x) (k + 1)
  of_step {v} {r} {x} l e y =
      let b = a.walk.stacked.buckets in
      let g = a.walk.mandatory in
      let row = word w₀ (statement_cell k 11) in
      let z : numbers w n r ≡ numbers w₀ n row =
      ap (numbers w n) (row_is l e) ∙ numbers_kept b g h.marks.kept row (a.walk.stacked.row k l) in
      record {
        marks = marks_as (marks_then b g h.marks y) (rising (listed w₀ n (k + 1)) u)
            (λ c o. ap (λ t. rising t u c) (listed_more w₀ n k)
            ∙ rising_append (listed w₀ n k) (pairs_in (numbers w₀ n row)) u c
            ∙ ap (λ t. or (rising (listed w₀ n k) u c) (rising (pairs_in t) u c)) (sym z));
        upto = omega arith;
      }

  pub of_end : d ≤ k → CountsOf w₀ w n m d u s
  of_end l =
      let e : k ≡ d = omega (arith, h.upto) in
      let x : Marks w₀ w n m u (rising (listed w₀ n d) u) s = rw e at h.marks in
      record {
        kept = x.kept;
        marks = λ c o. x.low c (u + 1) o (omega arith) (omega (arith, a.marks c o));
        count = turn_count (listed w₀ n d) a.marks x;
        few = omega (arith, x.count, tally_few w n m u);
      }

-- ---- all turns
pub record InvAll (w₀ w : List ℕ) (n m d s u : ℕ) : Type 0 where
  pub kept : Remarked n 0 m w₀ w
  pub marks : (k : ℕ) → k < m → mark w n k ≤ u
  pub count : s ≡ sum (partners (listed w₀ n d) m) u
  pub few : s ≤ 4095 * u
  pub upto : u ≤ m

pub all_begin : {w : List ℕ} {n m d : ℕ} → CanCountAll w n m d → InvAll w w n m d 0 0
unfolding sum
all_begin {w} {n} {m} a =
    record {
      kept = remarked_none n 0 m w;
      marks = λ k l. omega (arith, a.marks k l);
      count = refl;
      few = omega arith;
      upto = omega arith;
    }

module _ {w₀ w : List ℕ} {n m d s u : ℕ} (a : CanCountAll w₀ n m d) (h : InvAll w₀ w n m d s u) where
  pub all_can : u < m → CanCountOf w n m d u
  all_can l =
      record {
        walk = record {
          v = a.walk.v;
          stacked = stacked_kept a.walk.stacked.buckets a.walk.mandatory h.kept d a.walk.stacked;
          mandatory = a.walk.mandatory;
        };
        turn = l;
        marks = h.marks;
      }

  pub all_step : {v : List ℕ} {r : ℕ} → u < m → CountsOf w v n m d u r → InvAll w₀ v n m d (s + r) (u + 1)
  unfolding sum
  all_step {v} {r} l y =
      let b = a.walk.stacked.buckets in
      let g = a.walk.mandatory in
      let e : r ≡ partners (listed w₀ n d) m u =
      y.count ∙ ap (λ t. partners t m u) (listed_kept b g h.kept d a.walk.stacked) in
      record {
        kept = remarked_then b g h.kept y.kept;
        marks = y.marks;
        count = omega (arith, h.count, e, sum_next (partners (listed w₀ n d) m) u);
        few = omega (arith, h.few, y.few, g, b.few);
        upto = omega arith;
      }
    where
      sum_next : (f : ℕ → ℕ) (k : ℕ) → sum f (k + 1) ≡ sum f k + f k
      sum_next f k = let e : k + 1 ≡ suc k = omega arith in rw e

  pub all_end : m ≤ u → CountsAll w₀ w n m d s
  all_end l =
      let e : u ≡ m = omega (arith, h.upto) in
      record { kept = h.kept; count = rw e at h.count; few = omega (arith, h.few, e) }

-- ---- the marks taken away
pub record InvClear (w₀ w : List ℕ) (n m k : ℕ) : Type 0 where
  pub kept : Remarked n 0 m w₀ w
  pub upto : k ≤ m
  pub back :
      (x : List ℕ) → ((i : ℕ) → i < m → mark x n i ≡ 0) → ((i : ℕ) → i < m → mark_cell x n i ≡ mark_cell w₀ n i)
      → Remarked n 0 m x w₀ → Remarked n k m x w

pub clear_begin : (w : List ℕ) (n m : ℕ) → InvClear w w n m 0
clear_begin w n m = record { kept = remarked_none n 0 m w; upto = omega arith; back = λ x a b c. c }

module _ {w₀ w : List ℕ} {n m k : ℕ} (a : CanClear w₀ n m) (h : InvClear w₀ w n m k) where
  pub clear_room : k < m → Buckets w n a.v × (word w (bucket_cell n k) < n)
  clear_room l =
      let b = buckets_kept a.buckets a.mandatory h.kept in
      (b, b.atom k (omega (arith, a.mandatory)))

  pub clear_step :
      {v : List ℕ} {c : ℕ} → k < m → c ≡ word w (bucket_cell n k) → v ≡ set w (symbol_cell n c 6) 0
      → InvClear w₀ v n m (k + 1)
  clear_step {v} {c} l e y =
      let b = a.buckets in
      let g = a.mandatory in
      let z : symbol_cell n c 6 ≡ mark_cell w₀ n k =
      ap (λ t. symbol_cell n t 6) (e ∙ bucket_kept b g h.kept k (omega (arith, b.most))) in
      let o : symbol_cell n c 6 < length w =
      omega (arith, z, b.atom k (omega arith), b.room.room, h.kept.len) in
      rw y
      (record {
        kept = record {
          len = length-set w (symbol_cell n c 6) 0 ∙ h.kept.len;
          same = λ i f.
              word_other w (symbol_cell n c 6) i 0 (λ q. f k (omega arith) l (q ∙ z)) ∙ h.kept.same i f;
        };
        upto = omega arith;
        back = λ x p q r. clear_next (h.back x p q r) (z ∙ sym (q k l)) o (p k l);
      })

  pub clear_done : m ≤ k → ClearsMarks w₀ w n m
  clear_done l =
      let e : k ≡ m = omega (arith, h.upto) in
      record { back = λ x p q r. clear_end (rw e at (h.back x p q r)) }

-- ---- counted and cleared
pub count_clear : {w v : List ℕ} {n m d r : ℕ} → CanCountAll w n m d → CountsAll w v n m d r → CanClear v n m
count_clear a x =
    record {
      v = a.walk.v;
      buckets = buckets_kept a.walk.stacked.buckets a.walk.mandatory x.kept;
      mandatory = a.walk.mandatory;
    }

pub count_done :
    {w v x : List ℕ} {n m d r : ℕ} → CanCountAll w n m d → CountsAll w v n m d r → ClearsMarks v x n m → PairCount w x n m d r
count_done {w} a y z =
    let b = a.walk.stacked.buckets in
    let g = a.walk.mandatory in
    record {
      words = z.back w a.marks (λ k l. sym (cell_kept b g y.kept k (omega (arith, g)))) y.kept;
      count = y.count;
      few = omega (arith, y.few, g, b.few);
    }
