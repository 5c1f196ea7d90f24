-- One pair drawn: its bits are read and set in the rows, and its bytes are written before them.
-- Assumes nothing.
use mathlib.Core.Path.{◌≡◌, sym, ap, ◌∙◌}
use mathlib.Core.Logic.{◌≢◌}
use mathlib.Core.Bool.{Bool, true, false}
use mathlib.Core.List.{List, [], ◌∷◌, ◌++◌, append_assoc, append-nil}
use Prim.Native.Nat.{ℕ, ◌+◌, ◌*◌, ◌<◌, ◌≤◌}
use native.Mathlib.Omega.{arith}
use lib.Dec.{eqb, ltb}
use lib.ListN.{length, get_or, set, length-set, length-append}
use borrow.Author.Tests.{eq-eqb, ne_eqb, lt-ltb, ltb-true}
use Rattle.paper.specs.Base.{not, all, gather}
use Rattle.paper.specs.Answer.{laid}
use Rattle.paper.specs.Pairs.{Pair, pair}
use Rattle.paper.specs.Records.{pair_bytes, row_bytes, u16}
use Rattle.paper.proofs.Tests.{split, clash}
use Rattle.paper.proofs.Lists.{gather_append}
use Rattle.stream.specs.Bits.{bit_at, with_bit}
use Rattle.stream.specs.Wrote.{Wrote}
use Rattle.stream.proofs.Wrote.{wrote_then, wrote_as, wrote_to}
use Rattle.stream.proofs.Records.{length_u16}
use Rattle.stream.proofs.Rows.{row_width, Wide, lit_up, wide_lit}
use Rattle.stream.proofs.Setting.{wrote_row_bit, wrote_row_set}
use Rattle.disjoint.specs.declared.draw.Grid.{Grid}
use Rattle.disjoint.specs.Found.{both, distinct, meets}
use Rattle.disjoint.specs.Drawn.{once, square, Drawing}
use Rattle.disjoint.proofs.Square.{length_square, wide_square, bit_square, square_more, square_again, square_beyond, once_again, once_out, once_in, once_prefix, length_pairs}
use Rattle.disjoint.proofs.Bools.{and_left, and_right}
use Rattle.disjoint.proofs.Swapped.{wrote_first, wrote_after}

-- ---- the pair that is next
all_middle : {A : Type 0} (t : A → Bool) (l : List A) (x : A) (r : List A) → all t (l ++ (x ∷ r)) ≡ true → t x ≡ true
unfolding all
all_middle t [] x r e = split (t x) (λ q. q) (λ q. absurd (clash (sym (rw q at e))))
all_middle t (y ∷ l) x r e = split (t y) (λ q. all_middle t l x r (rw q at e)) (λ q. absurd (clash (sym (rw q at e))))

both_fewer : (m v x y : ℕ) → m ≤ v → both v (pair x y) ≡ false → both m (pair x y) ≡ false
both_fewer m v x y h e =
    split (both m (pair x y))
    (λ q.
    let l = ltb-true x m (and_left (ltb x m) (ltb y m) q) in
    let r = ltb-true y m (and_right (ltb x m) (ltb y m) q) in
    absurd (clash (sym (rw (lt-ltb x v (omega (arith, l)), lt-ltb y v (omega (arith, r)))) ∙ e)))
    (λ q. q)

pub record Next (x y v : ℕ) : Type 0 where
  pub left : x < v
  pub right : y < v
  pub differ : x ≢ y

module _ {a b : List ℕ} {from at v : ℕ} {g : Grid} {s : List Pair} (x y : ℕ) (rest : List Pair) (d : Drawing a b from at v g s (pair x y ∷ rest)) where
  differ_next : x ≢ y
  differ_next q =
      let e : not (eqb x y) ≡ true = all_middle distinct d.done (pair x y) rest (ap (all distinct) d.sum ∙ d.distinct_pairs) in
      clash (sym e ∙ ap not (eq-eqb x y q))

  sum_next : (d.done ++ (pair x y ∷ [])) ++ rest ≡ s
  sum_next = append_assoc d.done (pair x y ∷ []) rest ∙ d.sum

  -- a variable without a row: nothing is drawn
  once_beyond : both v (pair x y) ≡ false → once g.mandatory (d.done ++ (pair x y ∷ [])) ≡ once g.mandatory d.done
  unfolding meets
  once_beyond e =
      split (meets d.done x y)
      (λ q. once_again g.mandatory d.done (pair x y) q)
      (λ q. once_out g.mandatory d.done (pair x y) q (both_fewer g.mandatory v x y d.mandatory e))

  pub draw_beyond : both v (pair x y) ≡ false → Drawing a b from at v g s rest
  draw_beyond e =
      record {
        done = d.done ++ (pair x y ∷ []);
        sum = sum_next;
        mid = d.mid;
        pairs = wrote_as d.pairs (ap (gather pair_bytes) (once_beyond e));
        rows = wrote_as d.rows (ap (gather row_bytes) (square_beyond d.done x y v e));
        fits = d.fits;
        width = d.width;
        size = d.size;
        mandatory = d.mandatory;
        few = d.few;
        place = d.place;
        room = d.room;
        distinct_pairs = d.distinct_pairs;
      }

  -- no sum wraps
  pub place_below : at ≤ g.at
  place_below =
      omega (
        arith,
        d.pairs.place,
        length_pairs (once g.mandatory d.done),
        d.room,
        once_prefix g.mandatory d.done (pair x y ∷ rest),
        ap (λ t. length (once g.mandatory t)) d.sum,
      )

module _ {a b : List ℕ} {from at v : ℕ} {g : Grid} {s : List Pair} (x y : ℕ) (rest : List Pair) (d : Drawing a b from at v g s (pair x y ∷ rest)) (left : x < v) (right : y < v) where
  next_pair : Next x y v
  next_pair = record { left = left; right = right; differ = differ_next x y rest d }

  -- the rows lie at whole numbers of bytes
  end_is : g.at + v * g.width ≡ g.at + v * row_width v
  end_is = ap (λ t. g.at + v * t) d.width

  rows_wrote : Wrote d.mid b g.at (g.at + v * row_width v) (gather row_bytes (square d.done v))
  rows_wrote = wrote_to d.rows (sym end_is)

  fits_mid : g.at + v * row_width v ≤ length d.mid
  fits_mid = omega (arith, d.fits, end_is, d.pairs.len)

  pub pair_met : bit_at b (g.at + x * g.width) y ≡ meets d.done x y
  pair_met =
      let n = next_pair in
      let w : Wide v (square d.done v) = wide_square d.done v in
      ap (λ t. bit_at b (g.at + x * t) y) d.width
      ∙ wrote_row_bit v (square d.done v) x y rows_wrote w (omega (arith, n.left, length_square d.done v)) n.right fits_mid
      ∙ bit_square d.done v x y n.left n.right
      ∙ rw (ne_eqb x y n.differ)

  -- it was found before
  pub draw_old : bit_at b (g.at + x * g.width) y ≡ true → Drawing a b from at v g s rest
  unfolding meets
  draw_old e =
      let q : meets d.done x y ≡ true = sym pair_met ∙ e in
      record {
        done = d.done ++ (pair x y ∷ []);
        sum = sum_next x y rest d;
        mid = d.mid;
        pairs = wrote_as d.pairs (ap (gather pair_bytes) (once_again g.mandatory d.done (pair x y) q));
        rows = wrote_as d.rows (ap (gather row_bytes) (square_again d.done x y v q));
        fits = d.fits;
        width = d.width;
        size = d.size;
        mandatory = d.mandatory;
        few = d.few;
        place = d.place;
        room = d.room;
        distinct_pairs = d.distinct_pairs;
      }

  -- its bits are set
  both_set :
      Wrote d.mid (with_bit (with_bit b (g.at + x * g.width) y) (g.at + y * g.width) x) g.at (g.at + v * g.width)
      (gather row_bytes (square (d.done ++ (pair x y ∷ [])) v))
  both_set =
      let n = next_pair in
      let r = square d.done v in
      let w : Wide v r = wide_square d.done v in
      let o : length r ≡ v = length_square d.done v in
      let f : Wrote d.mid (with_bit b (g.at + x * row_width v) y) g.at (g.at + v * row_width v) (gather row_bytes (lit_up r x y)) =
      wrote_row_set v r x y rows_wrote w (omega (arith, n.left, o)) n.right in
      let k : length (lit_up r x y) ≡ v = length_lit r x y ∙ o in
      let h : Wrote d.mid (with_bit (with_bit b (g.at + x * row_width v) y) (g.at + y * row_width v) x) g.at (g.at + v * row_width v) (gather row_bytes (lit_up (lit_up r x y) y x)) =
      wrote_row_set v (lit_up r x y) y x f (wide_lit v r x y w) (omega (arith, n.right, k)) n.left in
      rw d.width (wrote_as h (ap (gather row_bytes) (sym (square_more d.done x y v n.left n.right n.differ))))
    where
      length_lit : (r : List (List Bool)) (i j : ℕ) → length (lit_up r i j) ≡ length r
      length_lit r i j = length-set r i (set (get_or r i []) j true)

  module _ (e : bit_at b (g.at + x * g.width) y ≡ false) {c : List ℕ} (set_both : c ≡ with_bit (with_bit b (g.at + x * g.width) y) (g.at + y * g.width) x) where
    unmet : meets d.done x y ≡ false
    unmet = sym pair_met ∙ e

    rows_next : Wrote d.mid c g.at (g.at + v * g.width) (gather row_bytes (square (d.done ++ (pair x y ∷ [])) v))
    rows_next = rw set_both both_set

    -- not both are mandatory
    pub draw_out : both g.mandatory (pair x y) ≡ false → Drawing a c from at v g s rest
    unfolding meets
    draw_out f =
        record {
          done = d.done ++ (pair x y ∷ []);
          sum = sum_next x y rest d;
          mid = d.mid;
          pairs = wrote_as d.pairs (ap (gather pair_bytes) (once_out g.mandatory d.done (pair x y) unmet f));
          rows = rows_next;
          fits = d.fits;
          width = d.width;
          size = d.size;
          mandatory = d.mandatory;
          few = d.few;
          place = d.place;
          room = d.room;
          distinct_pairs = d.distinct_pairs;
        }

    -- both are, and the pair is written
    pub draw_in :
        {z o : List ℕ} {p q : ℕ} → both g.mandatory (pair x y) ≡ true → Wrote c z at p (u16 x) → Wrote z o p q (u16 y)
        → Drawing a o from q v g s rest
    unfolding meets pair_bytes gather
    draw_in {z} {o} {p} {q} f k j =
        let w : Wrote c o at q (u16 x ++ u16 y) = wrote_then k j in
        let n : once g.mandatory (d.done ++ (pair x y ∷ [])) ≡ once g.mandatory d.done ++ (pair x y ∷ []) =
        once_in g.mandatory d.done (pair x y) unmet f in
        let h : q ≤ g.at =
        omega (
          arith,
          d.pairs.place,
          length_pairs (once g.mandatory d.done),
          k.place,
          j.place,
          length_u16 x,
          length_u16 y,
          d.room,
          ap length n,
          length-append (once g.mandatory d.done) (pair x y ∷ []),
          once_prefix g.mandatory (d.done ++ (pair x y ∷ [])) rest,
          ap (λ t. length (once g.mandatory t)) (sum_next x y rest d),
        ) in
        let i : g.at + v * g.width ≤ length d.mid = omega (arith, d.fits, d.pairs.len) in
        record {
          done = d.done ++ (pair x y ∷ []);
          sum = sum_next x y rest d;
          mid = laid d.mid at (u16 x ++ u16 y);
          pairs = wrote_as (wrote_then d.pairs (wrote_first rows_next w h i))
              (ap (gather pair_bytes) n
              ∙ gather_append pair_bytes (once g.mandatory d.done) (pair x y ∷ [])
              ∙ ap (λ t. gather pair_bytes (once g.mandatory d.done) ++ t) (append-nil (u16 x ++ u16 y)));
          rows = wrote_after rows_next w h i;
          fits = d.fits;
          width = d.width;
          size = d.size;
          mandatory = d.mandatory;
          few = d.few;
          place = d.place;
          room = d.room;
          distinct_pairs = d.distinct_pairs;
        }
