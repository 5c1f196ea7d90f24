-- The words where only marks differ: numbers and pairs are the same, and what was asked of them still holds.
-- Assumes nothing.
use mathlib.Core.Path.{◌≡◌, refl, sym, ap, ◌∙◌}
use mathlib.Core.Bool.{Bool, true, false}
use mathlib.Core.List.{List, [], ◌∷◌, ◌++◌, append-nil}
use Prim.Native.Nat.{ℕ, zero, suc, ◌+◌, ◌-◌, ◌*◌, ◌<◌, ◌≤◌}
use native.Mathlib.Numerals.{add-one}
use native.Mathlib.Omega.{arith}
use lib.Dec.{eqb}
use lib.ListN.{length, get_or, take}
use lib.Seq.{take-suc}
use Rattle.paper.specs.Base.{choose, or, any, gather}
use Rattle.paper.specs.Pairs.{pairs_in}
use Rattle.paper.proofs.Lists.{gather_append}
use Rattle.paper.proofs.Names.{any_append}
use Rattle.paper.proofs.Tables.{length_table, get_or_table}
use Rattle.paper.proofs.Made.{table_same}
use Rattle.area.specs.Cells.{statement_cell, bucket_cell, symbol_cell, math_cell, word}
use Rattle.sight.specs.Static.{stack}
use Rattle.disjoint.specs.Found.{has}
use Rattle.disjoint.specs.Words.{atom_at, number_at, first_of, count_of, number_of, numbers, listed, TokenNumbered, RowNumbered, Buckets, Stacked}
use Rattle.disjoint.specs.Marks.{mark_cell, Remarked}

-- ---- the numbers of a row
pub length_numbers : (w : List ℕ) (n r : ℕ) → length (numbers w n r) ≡ count_of w r
unfolding numbers
length_numbers w n r = length_table (number_of w n r) (count_of w r)

pub numbers_at : (w : List ℕ) (n r i : ℕ) → i < count_of w r → get_or (numbers w n r) i 0 ≡ number_of w n r i
unfolding numbers
numbers_at w n r i h = get_or_table (number_of w n r) (count_of w r) i 0 h

-- the next number of a row, as it is read
pub number_next : (w : List ℕ) (n r i x : ℕ) → i < count_of w r → x ≡ number_at w n (first_of w r + i) - 1 → x ≡ get_or (numbers w n r) i 0
unfolding number_of
number_next w n r i x h e = e ∙ sym (numbers_at w n r i h)

pub listed_more : (w : List ℕ) (n d : ℕ) → listed w n (d + 1) ≡ listed w n d ++ pairs_in (numbers w n (word w (statement_cell d 11)))
unfolding listed stack gather
listed_more w n d =
    rw add-one
    (gather_append (λ r. pairs_in (numbers w n r)) (stack w 11 d) (word w (statement_cell d 11) ∷ [])
    ∙ ap (λ p. gather (λ r. pairs_in (numbers w n r)) (stack w 11 d) ++ p) (append-nil (pairs_in (numbers w n (word w (statement_cell d 11))))))

-- ---- a number looked for among the first ones
module _ (u : ℕ) (l : List ℕ) (i : ℕ) where
  pub has_more : i < length l → has u (take (i + 1) l) ≡ or (has u (take i l)) (eqb u (get_or l i 0))
  unfolding has any
  has_more h =
      rw (add-one, take-suc l i 0)
      (any_append (eqb u) (take i l) (get_or l i 0 ∷ []) ∙ ap (or (any (eqb u) (take i l))) (one_test (eqb u (get_or l i 0))))
    where
      one_test : (b : Bool) → choose b true false ≡ b
      one_test true = refl
      one_test false = refl

-- ---- marks apart, the words are the same
module _ {w v : List ℕ} {n c m z : ℕ} (b : Buckets w n z) (h : m ≤ z) (k : Remarked n c m w v) where
  pub statement_kept : (r j : ℕ) → 3 * r + 3 ≤ n → j < 12 → word v (statement_cell r j) ≡ word w (statement_cell r j)
  statement_kept r j g l = k.same (statement_cell r j) (λ i e f q. omega (arith, q))

  pub bucket_kept : (i : ℕ) → i < n → word v (bucket_cell n i) ≡ word w (bucket_cell n i)
  bucket_kept i g = k.same (bucket_cell n i) (λ j e f q. omega (arith, q))

  math_kept : (t : ℕ) → word v (math_cell n t) ≡ word w (math_cell n t)
  math_kept t = k.same (math_cell n t) (λ j e f q. omega (arith, q, b.atom j (omega arith)))

  number_kept : (a : ℕ) → word v (symbol_cell n a 5) ≡ word w (symbol_cell n a 5)
  number_kept a = k.same (symbol_cell n a 5) (λ j e f q. omega (arith, q))

  pub cell_kept : (i : ℕ) → i < z → mark_cell v n i ≡ mark_cell w n i
  cell_kept i g = ap (λ a. symbol_cell n a 6) (bucket_kept i (omega (arith, b.most)))

  atom_at_kept : (t : ℕ) → atom_at v n t ≡ atom_at w n t
  unfolding atom_at
  atom_at_kept t = math_kept t

  number_at_kept : (t : ℕ) → number_at v n t ≡ number_at w n t
  unfolding number_at
  number_at_kept t = rw (atom_at_kept t) (number_kept (atom_at w n t))

  pub buckets_kept : Buckets v n z
  buckets_kept =
      let at : (i : ℕ) → i < z → word v (bucket_cell n i) ≡ word w (bucket_cell n i) = λ i g. bucket_kept i (omega (arith, b.most)) in
      record {
        room = record { room = omega (arith, k.len, b.room.room); small = b.room.small };
        few = b.few;
        most = b.most;
        atom = λ i g. rw (at i g) (b.atom i g);
        number = λ i g. rw (at i g) (number_kept (word w (bucket_cell n i)) ∙ b.number i g);
      }

  token_kept : (t : ℕ) → TokenNumbered w n t → TokenNumbered v n t
  token_kept t g =
      record {
        here = g.here;
        atom = rw (atom_at_kept t) g.atom;
        some = rw (number_at_kept t) g.some;
      }

  module _ (r : ℕ) (g : RowNumbered w n z r) where
    first_kept : first_of v r ≡ first_of w r
    first_kept = statement_kept r 5 g.here (omega arith)

    count_kept : count_of v r ≡ count_of w r
    count_kept = statement_kept r 6 g.here (omega arith)

    pub number_of_kept : (i : ℕ) → number_of v n r i ≡ number_of w n r i
    unfolding number_of
    number_of_kept i = rw (first_kept, number_at_kept (first_of w r + i))

    pub numbers_kept : numbers v n r ≡ numbers w n r
    unfolding numbers
    numbers_kept = rw count_kept (table_same (number_of v n r) (number_of w n r) (count_of w r) (λ i l. number_of_kept i))

    pub row_kept : RowNumbered v n z r
    row_kept =
        record {
          here = g.here;
          token = λ i l. rw first_kept (token_kept (first_of w r + i) (g.token i (rw count_kept at l)));
          below = λ i l. rw (number_of_kept i) (g.below i (rw count_kept at l));
          back = λ i l.
              let e : i < count_of w r = rw count_kept at l in
              rw (number_of_kept i, first_kept, atom_at_kept (first_of w r + i))
              (bucket_kept (number_of w n r i) (omega (arith, g.below i e, b.most)) ∙ g.back i e);
          differ = λ i j l o q. g.differ i j l (rw count_kept at o) (sym (number_of_kept i) ∙ q ∙ number_of_kept j);
        }

  stack_kept : (d : ℕ) → 3 * d ≤ n → stack v 11 d ≡ stack w 11 d
  unfolding stack
  stack_kept zero g = refl
  stack_kept (suc d) g = rw (stack_kept d (omega arith), statement_kept d 11 (omega arith) (omega arith))

  pub stacked_kept : (d : ℕ) → Stacked w n z d → Stacked v n z d
  stacked_kept d g =
      record {
        buckets = buckets_kept;
        depth = g.depth;
        row = λ i l. rw (statement_kept i 11 (omega (arith, g.depth)) (omega arith)) (row_kept (word w (statement_cell i 11)) (g.row i l));
      }

  pub listed_kept : (d : ℕ) → Stacked w n z d → listed v n d ≡ listed w n d
  unfolding listed stack gather
  listed_kept zero g = refl
  listed_kept (suc d) g =
      let e : word v (statement_cell d 11) ≡ word w (statement_cell d 11) = statement_kept d 11 (omega (arith, g.depth)) (omega arith) in
      let s : Stacked w n z d = record { buckets = g.buckets; depth = omega (arith, g.depth); row = λ i l. g.row i (omega arith) } in
      let q : numbers v n (word v (statement_cell d 11)) ≡ numbers w n (word w (statement_cell d 11)) =
      ap (numbers v n) e ∙ numbers_kept (word w (statement_cell d 11)) (g.row d (omega arith)) in
      gather_append (λ r. pairs_in (numbers v n r)) (stack v 11 d) (word v (statement_cell d 11) ∷ [])
      ∙ ap (λ p. p ++ gather (λ r. pairs_in (numbers v n r)) (word v (statement_cell d 11) ∷ [])) (listed_kept d s)
      ∙ ap (λ l. gather (λ r. pairs_in (numbers w n r)) (stack w 11 d) ++ (pairs_in l ++ [])) q
      ∙ sym (gather_append (λ r. pairs_in (numbers w n r)) (stack w 11 d) (word w (statement_cell d 11) ∷ []))
