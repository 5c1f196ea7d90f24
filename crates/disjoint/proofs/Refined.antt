-- What the words say of the frame in hand: the numbers of a row are those of its names, so the pairs are those found.
-- Assumes nothing.
use mathlib.Core.Path.{◌≡◌, refl, sym, ap, ◌∙◌}
use mathlib.Core.Bool.{true}
use mathlib.Core.List.{List, [], ◌∷◌, ◌++◌, map}
use Prim.Native.Nat.{ℕ, zero, suc, ◌+◌, ◌<◌, ◌≤◌}
use native.Mathlib.Omega.{arith}
use lib.ListN.{length, get_or, take, drop, take-append-drop}
use lib.Seq.{length-take-le, get_or-take}
use Rattle.paper.specs.Base.{gather, table}
use Rattle.paper.specs.Tokens.{Token}
use Rattle.paper.specs.Statements.{Statement}
use Rattle.paper.specs.Checks.{token, no_token}
use Rattle.paper.specs.Variables.{member, index}
use Rattle.paper.specs.Pairs.{pairs_in, pairs, apart, row, rows}
use Rattle.paper.proofs.Names.{index_lt, index_at, index_same, member_at}
use Rattle.paper.proofs.Lists.{gather_append}
use Rattle.paper.proofs.Gather.{map_append}
use Rattle.paper.proofs.Made.{table_same, table_map}
use Rattle.area.specs.Cells.{statement_cell, bucket_cell, symbol_cell, word}
use Rattle.reader.specs.Rows.{stmt, before}
use Rattle.nameck.specs.Atoms.{atoms, name_of, bytes_of}
use Rattle.nameck.proofs.Atoms.{atom_below, name_of_atom}
use Rattle.sight.specs.Static.{row_disjoint, stack}
use Rattle.sight.specs.Numbered.{number_word, Entry, Holds}
use Rattle.sight.proofs.Numbering.{few}
use Rattle.sight.proofs.Walks.{NamedToken, token_at}
use Rattle.sight.proofs.Stacks.{stack_at}
use Rattle.disjoint.specs.Found.{found_in, found}
use Rattle.disjoint.specs.Words.{atom_at, number_at, first_of, count_of, number_of, numbers, listed, RowNumbered, Buckets, Stacked}
use Rattle.disjoint.specs.Drawn.{once, square}
use Rattle.disjoint.specs.Written.{names_at, Names, Active}
use Rattle.disjoint.proofs.Mandatory.{pairs_found}
use Rattle.disjoint.proofs.Apart.{apart_found}

module _ {t w : List ℕ} {n : ℕ} {l : List Statement} {vs : List (List ℕ)} {k : ℕ} (h : Holds t w n l vs k) where
  -- ---- a variable of the frame
  entry_of : (x : List ℕ) → member x vs ≡ true → Entry w n l (index vs x) x
  entry_of x e =
      let q : get_or vs (index vs x) [] ≡ x = index_at x vs e in
      rw q at (h.numbered.entry (index vs x) (index_lt x vs e))

  -- its number word, at its atom
  number_is : (a : ℕ) (x : List ℕ) → member x vs ≡ true → a < length (atoms l) → name_of l a ≡ x → word w (symbol_cell n a 5) ≡ index vs x + 1
  unfolding number_word
  number_is a x e b q =
      h.numbered.number a b ∙ ap (number_word l vs) q ∙ rw ((entry_of x e).variable, e)

  pub holds_buckets : k ≤ 4095 → Buckets w n k
  holds_buckets g =
      let below : (i : ℕ) → i < k → i < length vs = λ i j. omega (arith, h.count) in
      let atom : (i : ℕ) → i < k → word w (bucket_cell n i) < length (atoms l) = λ i j.
      let e = h.numbered.entry i (below i j) in
      rw e.bucket (atom_below l (get_or vs i []) e.occurs) in
      record {
        room = record { room = h.named.shape.room; small = h.small };
        few = g;
        most = omega (arith, h.count, few h.numbered, h.named.few);
        atom = λ i j. omega (arith, atom i j, h.named.few);
        number = λ i j.
            let e = h.numbered.entry i (below i j) in
            number_is (word w (bucket_cell n i)) (get_or vs i []) (member_at vs i (below i j)) (atom i j)
            (ap (name_of l) e.bucket ∙ name_of_atom l (get_or vs i []) e.occurs)
            ∙ ap (λ c. c + 1) (h.numbered.place i (below i j));
      }

  -- ---- the tokens of a row
  module _ {r : ℕ} (g : Names l vs r) where
    first_is : first_of w r ≡ before l r
    first_is = h.named.shape.first r g.here

    count_is : count_of w r ≡ length (stmt l r).math
    count_is = h.named.shape.count r g.here

    at_token : (i : ℕ) → i < count_of w r → NamedToken w n l r (first_of w r) i (atom_at w n (first_of w r + i))
    unfolding atom_at
    at_token i j = token_at h.named g.here first_is (rw count_is at j)

    known : (i : ℕ) → i < count_of w r → member (token (stmt l r) i).bytes vs ≡ true
    known i j = g.known i (rw count_is at j)

    number_at_is : (i : ℕ) → i < count_of w r → number_at w n (first_of w r + i) ≡ index vs (token (stmt l r) i).bytes + 1
    unfolding number_at
    number_at_is i j =
        number_is (atom_at w n (first_of w r + i)) (token (stmt l r) i).bytes (known i j) (at_token i j).below (at_token i j).name

    number_of_is : (i : ℕ) → i < count_of w r → number_of w n r i ≡ index vs (token (stmt l r) i).bytes
    unfolding number_of
    number_of_is i j = let e = number_at_is i j in omega (arith, e)

    pub holds_row : RowNumbered w n k r
    holds_row =
        record {
          here = omega (arith, g.here, h.named.shape.few);
          token = λ i j.
              record {
                here = (at_token i j).fits;
                atom = omega (arith, (at_token i j).below, h.named.few);
                some = omega (arith, number_at_is i j);
              };
          below = λ i j. rw (number_of_is i j) (omega (arith, h.count, index_lt (token (stmt l r) i).bytes vs (known i j)));
          back = λ i j.
              ap (λ c. word w (bucket_cell n c)) (number_of_is i j)
              ∙ (entry_of (token (stmt l r) i).bytes (known i j)).bucket
              ∙ sym (at_token i j).is;
          differ = λ i j a b q.
              let c : i < count_of w r = omega arith in
              g.differ i j a (rw count_is at b)
              (index_same _ _ vs (known i c) (known j b) (sym (number_of_is i c) ∙ q ∙ number_of_is j b));
        }

    pub numbers_are : numbers w n r ≡ map (index vs) (names_at l r)
    unfolding numbers row_disjoint
    numbers_are =
        rw count_is
        (table_same (number_of w n r) (λ i. index vs (token (stmt l r) i).bytes) (length (stmt l r).math) (λ i j. number_of_is i (rw count_is j))
        ∙ table_map (λ x. index vs x.bytes) (stmt l r).math no_token
        ∙ map_map (stmt l r).math)
      where
        map_map : (x : List Token) → map (λ y. index vs y.bytes) x ≡ map (index vs) (map bytes_of x)
        map_map [] = refl
        map_map (y ∷ x) = ap (λ z. index vs y.bytes ∷ z) (map_map x)

-- a table over the first of a list
table_take : {A B : Type 0} (f : A → B) (l : List A) (d : A) (z : ℕ) → z ≤ length l → table (λ i. f (get_or l i d)) z ≡ map f (take z l)
table_take f l d z h =
    let e : length (take z l) ≡ z = length-take-le z l h in
    table_same (λ i. f (get_or l i d)) (λ i. f (get_or (take z l) i d)) z (λ i k. ap f (sym (get_or-take z l i d k)))
    ∙ ap (table (λ i. f (get_or (take z l) i d))) (sym e)
    ∙ table_map f (take z l) d

-- ---- the rows on the stack
module _ {t w : List ℕ} {n : ℕ} {l : List Statement} {vs : List (List ℕ)} {k m d : ℕ} (x : Active t w n l vs k m d) where
  names_of : (j : ℕ) → j < d → Names l vs (word w (statement_cell j 11))
  names_of j h = rw (← stack_at w 11 d j h) (x.row j h)

  pub active_stacked : k ≤ 4095 → Stacked w n k d
  active_stacked g =
      record {
        buckets = holds_buckets x.holds g;
        depth = omega (arith, x.depth, x.holds.named.shape.few);
        row = λ j h. holds_row x.holds (names_of j h);
      }

  listed_upto : (j : ℕ) → j ≤ d → listed w n j ≡ found vs (map (names_at l) (stack w 11 j))
  unfolding listed found stack gather
  listed_upto zero h = refl
  listed_upto (suc j) h =
      let r = word w (statement_cell j 11) in
      gather_append (λ r. pairs_in (numbers w n r)) (stack w 11 j) (r ∷ [])
      ∙ ap (λ p. p ++ gather (λ r. pairs_in (numbers w n r)) (r ∷ [])) (listed_upto j (omega arith))
      ∙ ap (λ y. gather (found_in vs) (map (names_at l) (stack w 11 j)) ++ (pairs_in y ++ [])) (numbers_are x.holds (names_of j (omega arith)))
      ∙ sym (gather_append (found_in vs) (map (names_at l) (stack w 11 j)) (names_at l r ∷ []))
      ∙ ap (gather (found_in vs)) (sym (map_append (names_at l) (stack w 11 j) (r ∷ [])))

  pub listed_found : listed w n d ≡ found vs (map (names_at l) (stack w 11 d))
  listed_found = listed_upto d (omega arith)

  -- ---- the pairs and the rows of the frame
  pub active_pairs : once m (listed w n d) ≡ pairs (take m vs) (map (names_at l) (stack w 11 d))
  unfolding once
  active_pairs =
      let ds = map (names_at l) (stack w 11 d) in
      let e : length (take m vs) ≡ m = length-take-le m vs (omega (arith, x.mandatory, x.holds.count)) in
      sym (pairs_found (take m vs) (drop m vs) ds ∙ rw (e, take-append-drop m vs, ← listed_found))

  -- the rows of the first z variables
  pub active_rows : (z : ℕ) → z ≤ k → square (listed w n d) z ≡ rows (take z vs) (map (names_at l) (stack w 11 d))
  unfolding square rows
  active_rows z h =
      let ds = map (names_at l) (stack w 11 d) in
      let c : z ≤ length vs = omega (arith, h, x.holds.count) in
      rw listed_found
      (table_same _ _ z
      (λ i a.
      table_same _ _ z (λ j b. sym (apart_found vs x.holds.numbered.place ds i j (omega arith) (omega arith)))
      ∙ table_take (apart ds (get_or vs i [])) vs [] z c)
      ∙ table_take (row (take z vs) ds) vs [] z c)
