-- Pairs and rows written: the start and the end of the drawing, and the bytes by the words and by the definitions.
-- Assumes nothing.
use mathlib.Core.Path.{◌≡◌, refl, sym, ap, ◌∙◌}
use mathlib.Core.List.{List, [], ◌++◌, map, append-nil}
use Prim.Native.Nat.{ℕ, ◌+◌, ◌*◌, ◌/◌, ◌<◌, ◌≤◌}
use native.Mathlib.Nat.{mul-le-mul_right}
use native.Mathlib.Omega.{arith}
use lib.ListN.{length, take, replicate, length-append}
use Rattle.std.specs.Int.{div_ceil}
use Rattle.paper.specs.Base.{keep, gather}
use Rattle.paper.specs.Pairs.{Pair, new_pairs, pairs}
use Rattle.paper.specs.Records.{u32, pair_bytes, row_bytes}
use Rattle.area.specs.Cells.{bucket_cell, word}
use Rattle.nameck.proofs.Atoms.{atom_below}
use Rattle.sight.specs.Static.{stack}
use Rattle.stream.specs.Wrote.{Wrote}
use Rattle.stream.proofs.Wrote.{wrote_none, wrote_then, wrote_as, wrote_to}
use Rattle.stream.proofs.Records.{length_u32}
use Rattle.stream.proofs.Rows.{row_width, length_rows, rows_dark}
use Rattle.disjoint.specs.Found.{count}
use Rattle.disjoint.specs.Words.{listed, CanCount}
use Rattle.disjoint.specs.Marks.{mark, CanCountAll, PairCount}
use Rattle.disjoint.specs.Drawn.{once, square, Drawing, Drew, CanDrawAll}
use Rattle.disjoint.specs.Written.{names_at, CanPutDisjoint, PutsDisjoint, word_bytes}
use Rattle.disjoint.proofs.Square.{length_square, wide_square, square_none, length_pairs}
use Rattle.disjoint.proofs.Refined.{active_stacked, active_pairs, active_rows}
use Rattle.disjoint.proofs.Once.{count_once, listed_proper, proper_distinct}

-- ---- what is asked of the words
pub put_walk : {w : List ℕ} {n at k m d : ℕ} → CanPutDisjoint w n at k m d → CanCount w n m d
put_walk x =
    record { v = x.k; stacked = active_stacked x.active x.few; mandatory = x.active.mandatory }

pub put_count : {w : List ℕ} {n at k m d : ℕ} → CanPutDisjoint w n at k m d → CanCountAll w n m d
unfolding mark
put_count {w} {n} x =
    record {
      walk = put_walk x;
      marks = λ i l.
          let e = x.active.holds.numbered.entry i (omega (arith, x.active.mandatory, x.active.holds.count)) in
          x.marks (word w (bucket_cell n i)) (rw e.bucket (atom_below x.l _ e.occurs));
    }

-- the count is that of the pairs
pub pairs_counted :
    {w v : List ℕ} {n at k m d c : ℕ} → CanPutDisjoint w n at k m d → PairCount w v n m d c → c ≡ length (once m (listed w n d))
unfolding count
pairs_counted {w} {n = n} {m = m} {d = d} x y =
    y.count ∙ count_once m x.k (listed w n d) (listed_proper d (active_stacked x.active x.few))

-- ---- the sizes
pub size_few : {w : List ℕ} {n at k m d : ℕ} → CanPutDisjoint w n at k m d → k ≤ 4095
size_few x = omega (arith, x.most, x.few)

pub width_is : (k : ℕ) {h : ℕ} → h ≡ div_ceil k 8 → h ≡ (k + 7) / 8
width_is k e = omega (arith, e)

pub rows_size : {k h : ℕ} → k ≤ 4095 → h ≡ (k + 7) / 8 → k * h ≤ 2096640
rows_size {k} {h} a e = omega (arith, e, mul-le-mul_right {m = k} {n = 4095} h a)

pub bytes_size : (m k : ℕ) (s : List Pair) {h : ℕ} → h ≡ (k + 7) / 8 → length (word_bytes m k s) ≡ 4 + (4 * length (once m s) + k * h)
bytes_size m k s {h} e =
    let r : length (gather row_bytes (square s k)) ≡ k * h =
    length_rows k (square s k) (wide_square s k)
    ∙ ap (λ i. i * row_width k) (length_square s k)
    ∙ ap (λ i. k * i) (sym e) in
    omega (
      arith,
      r,
      length_u32 (length (once m s)),
      length_pairs (once m s),
      length-append (u32 (length (once m s))) (gather pair_bytes (once m s) ++ gather row_bytes (square s k)),
      length-append (gather pair_bytes (once m s)) (gather row_bytes (square s k)),
    )

-- ---- the start and the end of the drawing
-- the count is written in b, up to `from`; the pairs have room up to `to`, and rows of h bytes follow
pub record Laying (w v b c : List ℕ) (n at k m d p h from to : ℕ) : Type 0 where
  pub can : CanPutDisjoint w n at k m d
  pub count : PairCount w v n m d p
  pub width : h ≡ (k + 7) / 8
  pub wrote : Wrote b c at from (u32 p)
  pub start : from ≡ at + 4
  pub room : to ≡ from + 4 * p

pub lay :
    {w v b c : List ℕ} {n at k m d p h from : ℕ} → CanPutDisjoint w n at k m d → PairCount w v n m d p → h ≡ div_ceil k 8
    → (from ≡ at + 4) × Wrote b c at from (u32 p) → Laying w v b c n at k m d p h from (from + 4 * p)
lay x y e z = record { can = x; count = y; width = width_is _ e; wrote = z.1; start = z.0; room = refl }

module _ {w v b c : List ℕ} {n at k m d p h from to : ℕ} (x : Laying w v b c n at k m d p h from to) where
  counted : p ≡ length (once m (listed w n d))
  counted = pairs_counted x.can x.count

  end_is : to + k * h ≡ at + length (word_bytes m k (listed w n d))
  end_is = omega (arith, x.start, x.room, counted, bytes_size m k (listed w n d) x.width)

  pub lay_place : to + k * h ≤ at + 134217728
  lay_place = omega (arith, x.start, x.room, x.count.few, rows_size (size_few x.can) x.width)

  -- what is written by the words is written by the definitions
  puts : {o : List ℕ} → Wrote b o at (to + k * h) (word_bytes m k (listed w n d)) → PutsDisjoint w v b o n at (to + k * h) k m d
  puts o =
      record {
        words = x.count.words;
        few = lay_place;
        sim = λ t l vs z a q.
            wrote_as o
            (sym
            (ap (λ f. u32 (length f) ++ (gather pair_bytes f ++ gather row_bytes (square (listed w n d) k))) (active_pairs a)
            ∙ ap (λ f. u32 (length (pairs (take m vs) (map (names_at l) (stack w 11 d)))) ++ (gather pair_bytes (pairs (take m vs) (map (names_at l) (stack w 11 d))) ++ gather row_bytes f)) (active_rows a k q)));
      }

  -- too short for all of it
  pub puts_short : length c < to + k * h → PutsDisjoint w v b c n at (to + k * h) k m d
  puts_short h =
      puts (record { place = end_is; len = x.wrote.len; bytes = λ f. absurd (omega (arith, x.wrote.len)) })

  module _ {o : List ℕ} {e : ℕ} (fits : to + k * h ≤ length c) (zeros : Wrote c o to e (replicate (k * h) 0)) (end : e ≡ to + k * h) where
    begun : Drawing c o from from k (record { at = to; width = h; size = k; mandatory = m }) (listed w n d) (listed w n d ++ [])
    unfolding once keep new_pairs gather
    begun =
        record {
          done = [];
          sum = append-nil (listed w n d);
          mid = c;
          pairs = wrote_none c from;
          rows = wrote_as (wrote_to zeros (sym end)) dark;
          fits = fits;
          width = x.width;
          size = refl;
          mandatory = x.can.least;
          few = size_few x.can;
          place = omega (arith, x.start, x.room, x.count.few, x.can.place);
          room = omega (arith, x.room, counted);
          distinct_pairs = proper_distinct x.can.k (listed w n d) (listed_proper d (active_stacked x.can.active x.can.few));
        }
      where
        dark : gather row_bytes (square [] k) ≡ replicate (k * h) 0
        dark = ap (gather row_bytes) (square_none k) ∙ rows_dark k k ∙ ap (λ i. replicate (k * i) 0) (sym x.width)

    pub lay_can : CanDrawAll v o n d (record { at = to; width = h; size = k; mandatory = m }) from
    lay_can =
        rw x.count.words
        (record {
          walk = record { v = x.can.k; stacked = active_stacked x.can.active x.can.few; mandatory = omega arith };
          draw = record { a = c; from = from; v = k; s = listed w n d; rest = []; drawing = begun };
        })

    pub puts_whole :
        {u : List ℕ} {q : ℕ} → Drew o u (record { at = to; width = h; size = k; mandatory = m }) from q (listed v n d) []
        → PutsDisjoint w v b u n at (to + k * h) k m d
    puts_whole {u} {q} y =
        let f : Drawing c u from q k (record { at = to; width = h; size = k; mandatory = m }) (listed w n d) [] =
        (rw x.count.words at y).sim c from k (listed w n d) [] begun in
        let g : f.done ≡ listed w n d = sym (append-nil f.done) ∙ f.sum in
        let i : Wrote c f.mid from q (gather pair_bytes (once m (listed w n d))) =
        wrote_as f.pairs (ap (λ t. gather pair_bytes (once m t)) (sym g)) in
        let j : Wrote f.mid u to (to + k * h) (gather row_bytes (square (listed w n d) k)) =
        wrote_as f.rows (ap (λ t. gather row_bytes (square t k)) (sym g)) in
        let z : to ≡ q = omega (arith, i.place, length_pairs (once m (listed w n d)), x.room, counted) in
        puts (wrote_then (wrote_as x.wrote (ap u32 (sym counted))) (wrote_then (wrote_to i z) j))
