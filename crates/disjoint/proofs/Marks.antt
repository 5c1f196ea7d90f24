-- Marks set in the turn of a variable: what one more mark adds, one walk after another, and the marks taken away.
-- Assumes nothing.
use mathlib.Core.Path.{◌≡◌, refl, sym, ap, ◌∙◌}
use mathlib.Core.Logic.{◌≢◌}
use mathlib.Core.Bool.{Bool, true, false}
use mathlib.Core.List.{List, [], ◌++◌}
use Prim.Native.Nat.{ℕ, ◌+◌, ◌<◌, ◌≤◌}
use native.Mathlib.Omega.{arith}
use lib.Dec.{eqb, ltb, leb}
use lib.ListN.{length, get_or, set, take, length-set}
use lib.Seq.{ext_get_or}
use borrow.Author.Tests.{eqb-true, eq-eqb, ne_eqb, ltb-true, lt-ltb, le-leb, leb-true}
use Rattle.paper.specs.Base.{and, or, not, any}
use Rattle.paper.specs.Pairs.{Pair, pair, pairs_in, same_pair}
use Rattle.paper.proofs.Tests.{split, clash, eqb_ne}
use Rattle.paper.proofs.Names.{any_append}
use Rattle.area.specs.Cells.{bucket_cell, symbol_cell, word}
use Rattle.area.proofs.Laws.{word_same, word_other}
use Rattle.sight.specs.Sums.{sum, one}
use Rattle.sight.proofs.Sums.{sum_same, sum_one, sum_few, sum_zero}
use Rattle.disjoint.specs.Found.{meets, has, rising, partners}
use Rattle.disjoint.specs.Words.{atom_at, number_at, first_of, count_of, number_of, RowNumbered, Buckets}
use Rattle.disjoint.specs.Marks.{mark_cell, mark, marked, tally, Remarked, Marks, fresh, MarksOne, above}
use Rattle.disjoint.proofs.Apart.{pairs_meet}
use Rattle.disjoint.proofs.Words.{cell_kept, has_more}
use Rattle.disjoint.proofs.Bools.{or_false, or_assoc, and_false, and_or}

one_few : (b : Bool) → one b ≤ 1
one_few true = omega arith
one_few false = omega arith

pub remarked_none : (n c m : ℕ) (w : List ℕ) → Remarked n c m w w
remarked_none n c m w = record { len = refl; same = λ i f. refl }

pub remarked_then :
    {w v x : List ℕ} {n m z : ℕ} → Buckets w n z → m ≤ z → Remarked n 0 m w v → Remarked n 0 m v x → Remarked n 0 m w x
remarked_then b h p q =
    record {
      len = q.len ∙ p.len;
      same = λ i f. q.same i (λ k e g d. f k e g (d ∙ cell_kept b h p k (omega arith))) ∙ p.same i f;
    }

pub tally_few : (w : List ℕ) (n m u : ℕ) → tally w n m u ≤ m
unfolding tally
tally_few w n m u = sum_few (λ k. one (marked w n u k)) m (λ k l. one_few (marked w n u k))

-- ---- nothing is marked, one is marked, and one walk after another
pub marks_old :
    (w : List ℕ) (n m u : ℕ) (p : ℕ → Bool) → ((k : ℕ) → k < m → or (marked w n u k) (p k) ≡ marked w n u k)
    → Marks w w n m u p 0
marks_old w n m u p e =
    record {
      kept = remarked_none n 0 m w;
      marks = λ k l. sym (e k l);
      count = omega arith;
      low = λ k b l e f. f;
    }

pub marks_none : (w : List ℕ) (n m u : ℕ) (p : ℕ → Bool) → ((k : ℕ) → k < m → p k ≡ false) → Marks w w n m u p 0
marks_none w n m u p e = marks_old w n m u p (λ k l. rw (e k l) (or_false (marked w n u k)))

pub marks_as :
    {w v : List ℕ} {n m u r : ℕ} {p : ℕ → Bool} → Marks w v n m u p r → (q : ℕ → Bool)
    → ((k : ℕ) → k < m → q k ≡ p k) → Marks w v n m u q r
marks_as x q e =
    record {
      kept = x.kept;
      marks = λ k l. rw (e k l) (x.marks k l);
      count = x.count;
      low = x.low;
    }

pub marks_then :
    {w v x : List ℕ} {n m u r s z : ℕ} {p q : ℕ → Bool} → Buckets w n z → m ≤ z → Marks w v n m u p r → Marks v x n m u q s
    → Marks w x n m u (λ k. or (p k) (q k)) (r + s)
marks_then {w} {v} {x} {n} {m} {u} {p = p} {q = q} b h f g =
    record {
      kept = remarked_then b h f.kept g.kept;
      marks = λ k l.
          g.marks k l
          ∙ ap (λ t. or t (q k)) (f.marks k l)
          ∙ or_assoc (marked w n u k) (p k) (q k);
      count = omega (arith, f.count, g.count);
      low = λ k b l e o. g.low k b l e (f.low k b l e o);
    }

module _ (w : List ℕ) (n m u z : ℕ) (b : Buckets w n z) (h : m ≤ z) (x : ℕ) (g : x < m) where
  cell_in : mark_cell w n x < length w
  cell_in = omega (arith, b.room.room, b.atom x (omega arith))

  same_cell : (k : ℕ) → k < m → mark_cell (set w (mark_cell w n x) (u + 1)) n k ≡ mark_cell w n k
  same_cell k l =
      ap (λ a. symbol_cell n a 6) (word_other w (mark_cell w n x) (bucket_cell n k) (u + 1) (λ q. omega (arith, q, b.most)))

  apart : (k : ℕ) → k < m → k ≢ x → mark_cell w n k ≢ mark_cell w n x
  apart k l d q =
      let e : word w (bucket_cell n k) ≡ word w (bucket_cell n x) = omega (arith, q) in
      d (omega (arith, b.number k (omega arith), b.number x (omega arith), ap (λ a. word w (symbol_cell n a 5)) e))

  mark_here : (k : ℕ) → k ≡ x → mark (set w (mark_cell w n x) (u + 1)) n k ≡ u + 1
  unfolding mark
  mark_here k e =
      ap (word (set w (mark_cell w n x) (u + 1))) (same_cell k (omega (arith, e)) ∙ ap (mark_cell w n) e)
      ∙ word_same w (mark_cell w n x) (u + 1) cell_in

  mark_there : (k : ℕ) → k < m → k ≢ x → mark (set w (mark_cell w n x) (u + 1)) n k ≡ mark w n k
  unfolding mark
  mark_there k l d =
      ap (word (set w (mark_cell w n x) (u + 1))) (same_cell k l)
      ∙ word_other w (mark_cell w n x) (mark_cell w n k) (u + 1) (apart k l d)

  pub marks_set : u < x → marked w n u x ≡ false → Marks w (set w (mark_cell w n x) (u + 1)) n m u (λ k. and (ltb u k) (eqb k x)) 1
  unfolding tally
  marks_set i new =
      let v = set w (mark_cell w n x) (u + 1) in
      let here : marked v n u x ≡ true = eq-eqb _ _ (mark_here x refl) in
      let there : (k : ℕ) → k < m → k ≢ x → marked v n u k ≡ marked w n u k =
      λ k l d. ap (λ a. eqb a (u + 1)) (mark_there k l d) in
      let up : sum (λ k. one (marked v n u k)) m ≡ sum (λ k. one (marked w n u k)) m + 1 =
      sum_one (λ k. one (marked w n u k)) (λ k. one (marked v n u k)) m x g (rw (here, new))
      (λ k l d. ap one (there k l d)) in
      record {
        kept = record {
          len = length-set w (mark_cell w n x) (u + 1);
          same = λ i f. word_other w (mark_cell w n x) i (u + 1) (f x (omega arith) g);
        };
        marks = λ k l.
            split (eqb k x)
            (λ q.
            let d : k ≡ x = eqb-true k x q in
            let a : marked v n u k ≡ true = ap (marked v n u) d ∙ here in
            let c : marked w n u k ≡ false = ap (marked w n u) d ∙ new in
            let y : ltb u k ≡ true = lt-ltb u k (omega (arith, d)) in
            rw (a, c, y, q))
            (λ q. rw q (there k l (eqb_ne q) ∙ sym (ap (or (marked w n u k)) (and_false (ltb u k)) ∙ or_false (marked w n u k))));
        count = omega (arith, up);
        low = λ k b l e f.
            split (eqb k x) (λ q. rw (mark_here k (eqb-true k x q)) e) (λ q. rw (mark_there k l (eqb_ne q)) f);
      }

-- ---- one token of a row
and_parts : (a b c : Bool) → and a (and b c) ≡ true → (a ≡ true) × (b ≡ true) × (c ≡ true)
and_parts true true c e = (refl, refl, e)
and_parts true false c e = absurd (clash (sym e))
and_parts false b c e = absurd (clash (sym e))

negated : (c : Bool) → not c ≡ true → c ≡ false
negated true e = absurd (clash (sym e))
negated false e = refl

module _ {w : List ℕ} {n z r i : ℕ} (row : RowNumbered w n z r) (l : i < count_of w r) where
  x_is : number_at w n (first_of w r + i) ≡ number_of w n r i + 1
  unfolding number_of
  x_is = omega (arith, (row.token i l).some)

  cell_is : symbol_cell n (atom_at w n (first_of w r + i)) 6 ≡ mark_cell w n (number_of w n r i)
  cell_is = ap (λ a. symbol_cell n a 6) (sym (row.back i l))

  mark_is : word w (symbol_cell n (atom_at w n (first_of w r + i)) 6) ≡ mark w n (number_of w n r i)
  unfolding mark
  mark_is = ap (word w) cell_is

  -- a token that is not to be marked is marked already, or is no matter
  already :
      (m u k : ℕ) → k < m → k ≡ number_of w n r i → u < k → fresh w n m (first_of w r + i) u ≡ false
      → or (marked w n u k) true ≡ marked w n u k
  unfolding fresh
  already m u k g d j e =
      split (marked w n u k) (λ q. rw q)
      (λ q.
      let a : ltb (u + 1) (number_at w n (first_of w r + i)) ≡ true = lt-ltb (u + 1) (number_at w n (first_of w r + i)) (omega (arith, x_is)) in
      let c : leb (number_at w n (first_of w r + i)) m ≡ true = le-leb (number_at w n (first_of w r + i)) m (omega (arith, x_is)) in
      let o : eqb (word w (symbol_cell n (atom_at w n (first_of w r + i)) 6)) (u + 1) ≡ false =
      ap (λ y. eqb y (u + 1)) (mark_is ∙ ap (mark w n) (sym d)) ∙ q in
      absurd (clash (rw (a, c, o) at e)))

  -- one that is to be marked
  record Fresh (m u : ℕ) : Type 0 where
    above_u : u < number_of w n r i
    below_m : number_of w n r i < m
    new : marked w n u (number_of w n r i) ≡ false

  fresh_is : (m u : ℕ) → fresh w n m (first_of w r + i) u ≡ true → Fresh m u
  unfolding fresh
  fresh_is m u e =
      let p = and_parts (ltb (u + 1) (number_at w n (first_of w r + i))) (leb (number_at w n (first_of w r + i)) m)
      (not (eqb (word w (symbol_cell n (atom_at w n (first_of w r + i)) 6)) (u + 1))) e in
      record {
        above_u = omega (arith, x_is, ltb-true (u + 1) (number_at w n (first_of w r + i)) p.0);
        below_m = omega (arith, x_is, leb-true (number_at w n (first_of w r + i)) m p.1);
        new = ap (λ o. eqb o (u + 1)) (sym mark_is) ∙ negated _ p.2;
      }

  pub marks_one :
      {v : List ℕ} {m u s : ℕ} → Buckets w n z → m ≤ z → MarksOne w v n m (first_of w r + i) u s
      → Marks w v n m u (λ k. and (ltb u k) (eqb k (number_of w n r i))) s
  marks_one {v} {m} {u} {s} b h y =
      let x = number_of w n r i in
      split (fresh w n m (first_of w r + i) u)
      (λ e.
      let p = fresh_is m u e in
      let q : v ≡ set w (mark_cell w n x) (u + 1) = y.words ∙ rw (e, cell_is) in
      let o : s ≡ 1 = y.count ∙ rw e in
      rw (q, o) (marks_set w n m u z b h x p.below_m p.above_u p.new))
      (λ e.
      let q : v ≡ w = y.words ∙ rw e in
      let o : s ≡ 0 = y.count ∙ rw e in
      rw (q, o)
      (marks_old w n m u (λ k. and (ltb u k) (eqb k x))
      (λ k g.
      split (eqb k x)
      (λ f.
      split (ltb u k)
      (λ j. rw (f, j) (already m u k g (eqb-true k x f) (ltb-true u k j) e))
      (λ j. rw (f, j) (or_false (marked w n u k))))
      (λ f. rw f (ap (or (marked w n u k)) (and_false (ltb u k)) ∙ or_false (marked w n u k))))))

-- the tokens so far, and one more
pub above_more :
    (l : List ℕ) (i u k : ℕ) → i < length l
    → above (take (i + 1) l) u k ≡ or (above (take i l) u k) (and (ltb u k) (eqb k (get_or l i 0)))
above_more l i u k h =
    ap (and (ltb u k)) (has_more k l i h) ∙ sym (and_or (ltb u k) (has k (take i l)) (eqb k (get_or l i 0)))

-- ---- the pairs of one row, and of one row after others
pub rising_row : (l : List ℕ) (u k : ℕ) → rising (pairs_in l) u k ≡ and (has u l) (above l u k)
unfolding meets
rising_row l u k =
    split (ltb u k)
    (λ e. rw e (pairs_meet u k l (λ q. omega (arith, q, ltb-true u k e))))
    (λ e. rw e (sym (and_false (has u l))))

pub rising_append : (s t : List Pair) (u k : ℕ) → rising (s ++ t) u k ≡ or (rising s u k) (rising t u k)
unfolding meets
rising_append s t u k =
    ap (and (ltb u k)) (any_append (same_pair (pair u k)) s t)
    ∙ sym (and_or (ltb u k) (any (same_pair (pair u k)) s) (any (same_pair (pair u k)) t))

pub rising_none : (u k : ℕ) → rising [] u k ≡ false
unfolding meets any
rising_none u k = and_false (ltb u k)

-- ---- a whole turn: no mark of it before, so those marked are the partners
pub unmarked : (w : List ℕ) (n u k : ℕ) → mark w n k ≤ u → marked w n u k ≡ false
unmarked w n u k h = ne_eqb (mark w n k) (u + 1) (λ q. omega (arith, q))

pub turn_count :
    {w v : List ℕ} {n m u r : ℕ} (s : List Pair) → ((k : ℕ) → k < m → mark w n k ≤ u) → Marks w v n m u (rising s u) r
    → r ≡ partners s m u
unfolding tally partners
turn_count {w} {v} {n} {m} {u} {r} s h x =
    let a : sum (λ k. one (marked w n u k)) m ≡ 0 = sum_zero (λ k. one (marked w n u k)) m (λ k l. ap one (unmarked w n u k (h k l))) in
    let b : sum (λ k. one (marked v n u k)) m ≡ sum (λ k. one (rising s u k)) m =
    sum_same _ _ m (λ k l. ap one (x.marks k l ∙ ap (λ t. or t (rising s u k)) (unmarked w n u k (h k l)))) in
    omega (arith, a, b, x.count)

-- ---- the marks taken away
pub clear_next :
    {w v : List ℕ} {n c m i : ℕ} → Remarked n c m w v → i ≡ mark_cell w n c → i < length v → mark w n c ≡ 0
    → Remarked n (c + 1) m w (set v i 0)
unfolding mark
clear_next {w} {v} {n} {c} {m} {i} x e h zero-before =
    record {
      len = length-set v i 0 ∙ x.len;
      same = λ j f.
          split (eqb j i)
          (λ q.
          let d : j ≡ i = eqb-true j i q in
          ap (word (set v i 0)) d ∙ word_same v i 0 h ∙ sym (ap (word w) (d ∙ e) ∙ zero-before))
          (λ q.
          word_other v i j 0 (eqb_ne q)
          ∙ x.same j (λ k a b d. split (eqb k c) (λ p. eqb_ne {x = j} {y = i} q (d ∙ ap (mark_cell w n) (eqb-true k c p) ∙ sym e)) (λ p. let o : k ≢ c = eqb_ne p in f k (omega (arith, o)) b d)));
    }

pub clear_end : {w v : List ℕ} {n m : ℕ} → Remarked n m m w v → v ≡ w
unfolding word
clear_end {w} {v} x = ext_get_or 0 v w x.len (λ i l. x.same i (λ k a b d. omega arith))
