-- Bytes compared, and a name looked for among those in the rows: its place in their list.
-- Assumes nothing.
use mathlib.Core.Path.{◌≡◌, refl, ap, ◌∙◌}
use mathlib.Core.Logic.{⊎_elim}
use mathlib.Core.Bool.{Bool, true, false}
use mathlib.Core.List.{List, [], ◌∷◌, ◌++◌}
use Prim.Native.Nat.{ℕ, zero, suc, ◌+◌, ◌-◌, ◌<◌, ◌≤◌}
use native.Mathlib.Nat.{eq-or-lt_of_le, le_of_suc-le-suc}
use native.Mathlib.Numerals.{add-one}
use native.Mathlib.Omega.{arith}
use lib.ListN.{length, get_or, take, drop, length-append, drop_of_length-le}
use lib.Seq.{drop-cons}
use borrow.Author.Tests.{eq-eqb, ne_eqb}
use Rattle.paper.specs.Base.{sameb, any}
use Rattle.paper.specs.Variables.{member, index}
use Rattle.paper.proofs.Tests.{split, ne_same}
use Rattle.paper.proofs.Names.{same_sym, member_left, member_right, member_one, index_in, index_past, index_lt}
use Rattle.area.specs.Cells.{name_cell, word}
use Rattle.nameck.specs.Table.{name_at, names_of, found, Spans}
use Rattle.std.specs.Prelude.{Some, None}

-- ---- bytes compared from a place on
unfoldable pub same_from : List ℕ → List ℕ → ℕ → Bool
same_from a b i = sameb (drop i a) (drop i b)

pub same_whole : (a b : List ℕ) → same_from a b 0 ≡ sameb a b
unfolding same_from
same_whole a b = refl

pub same_length_ne : (a b : List ℕ) → (length a ≡ length b → ⊥) → sameb a b ≡ false
same_length_ne a b d = ne_same a b (λ e. d (ap length e))

module _ (a b : List ℕ) (i : ℕ) where
  pub same_differ : i < length a → i < length b → (get_or a i 0 ≡ get_or b i 0 → ⊥) → same_from a b i ≡ false
  unfolding same_from sameb
  same_differ h k d = rw (drop-cons a i 0, drop-cons b i 0, ne_eqb _ _ d)

  pub same_step : i < length a → i < length b → get_or a i 0 ≡ get_or b i 0 → same_from a b (i + 1) ≡ same_from a b i
  unfolding same_from sameb
  same_step h k e = rw (add-one, drop-cons a i 0, drop-cons b i 0, eq-eqb _ _ e)

  pub same_end : length a ≤ i → length b ≤ i → same_from a b i ≡ true
  unfolding same_from sameb
  same_end h k = rw (drop_of_length-le a h, drop_of_length-le b k)

-- ---- the names in the first rows
pub names_length : (t w : List ℕ) (n m : ℕ) → length (names_of t w n m) ≡ m
unfolding names_of
names_length t w n zero = refl
names_length t w n (suc m) =
    omega (arith, names_length t w n m, length-append (names_of t w n m) (name_at t w n m ∷ []))

pub names_more : (t w : List ℕ) (n m : ℕ) → names_of t w n (m + 1) ≡ names_of t w n m ++ (name_at t w n m ∷ [])
unfolding names_of
names_more t w n m = rw add-one

pub names_same : (t w v : List ℕ) (n m : ℕ) → ((a : ℕ) → a < m → name_at t v n a ≡ name_at t w n a) → names_of t v n m ≡ names_of t w n m
unfolding names_of
names_same t w v n zero e = refl
names_same t w v n (suc m) e = rw (names_same t w v n m (λ a h. e a (omega arith)), e m (omega arith))

pub name_same : (t w v : List ℕ) (n a : ℕ) → word v (name_cell n a 0) ≡ word w (name_cell n a 0) → word v (name_cell n a 1) ≡ word w (name_cell n a 1) → name_at t v n a ≡ name_at t w n a
unfolding name_at
name_same t w v n a p q = rw (p, q)

-- ---- the words of a row, as they are read
module _ {t w : List ℕ} {n i j : ℕ} (row : ℕ) (b : Spans t w n (row + 1)) (p : i ≡ name_cell n row 0) (q : j ≡ name_cell n row 1) where
  pub row_order : get_or w i 0 ≤ get_or w j 0
  unfolding word
  row_order = rw (p, q) (b.start_stop row (omega arith))

  pub row_within : get_or w j 0 ≤ length t
  unfolding word
  row_within = rw q (b.within row (omega arith))

pub row_name : (t w : List ℕ) (n row i j : ℕ) → i ≡ name_cell n row 0 → j ≡ name_cell n row 1 → take (get_or w j 0 - get_or w i 0) (drop (get_or w i 0) t) ≡ name_at t w n row
unfolding word name_at
row_name t w n row i j p q = rw (p, q)

pub spans_fewer : {t w : List ℕ} {n m k : ℕ} → k ≤ m → Spans t w n m → Spans t w n k
spans_fewer h b =
    record {
      room = b.room;
      small = b.small;
      short = b.short;
      rows = omega (arith, b.rows);
      start_stop = λ a g. b.start_stop a (omega arith);
      within = λ a g. b.within a (omega arith);
    }

-- ---- the walk
module _ (t w : List ℕ) (n : ℕ) (x : List ℕ) where
  pub none_yet : member x (names_of t w n 0) ≡ false
  unfolding names_of any
  none_yet = refl

  pub none_here : (m : ℕ) → member x (names_of t w n m) ≡ false → sameb (name_at t w n m) x ≡ false → member x (names_of t w n (m + 1)) ≡ false
  none_here m e d =
      rw (names_more t w n m)
      (member_right x (names_of t w n m) (name_at t w n m ∷ []) e ∙ member_one x (name_at t w n m) ∙ same_sym x (name_at t w n m) ∙ d)

  found_old : (l k : List (List ℕ)) → member x l ≡ true → found (l ++ k) x ≡ found l x
  unfolding found
  found_old l k e = rw (member_left x l k e, index_in x l k e, e)

  found_new : (m : ℕ) → member x (names_of t w n m) ≡ false → sameb (name_at t w n m) x ≡ true → (member x (names_of t w n (m + 1)) ≡ true) × (found (names_of t w n (m + 1)) x ≡ Some m)
  unfolding found index
  found_new m e d =
      let z : member x (names_of t w n m ++ (name_at t w n m ∷ [])) ≡ true =
      member_right x (names_of t w n m) (name_at t w n m ∷ []) e ∙ member_one x (name_at t w n m) ∙ same_sym x (name_at t w n m) ∙ d in
      rw (names_more t w n m)
      (z, rw (z, index_past x (names_of t w n m) (name_at t w n m ∷ []) e, d) (ap Some (omega (arith, names_length t w n m))))

  -- what is found is found among more
  found_same : (m k : ℕ) → k ≡ m → member x (names_of t w n k) ≡ true → (member x (names_of t w n m) ≡ true) × (found (names_of t w n m) x ≡ found (names_of t w n k) x)
  found_same m k q e = rw (← q) (e, refl)

  found_more : (m k : ℕ) → k ≤ m → member x (names_of t w n k) ≡ true → (member x (names_of t w n m) ≡ true) × (found (names_of t w n m) x ≡ found (names_of t w n k) x)
  unfolding names_of
  found_more zero k h e = found_same zero k (omega arith) e
  found_more (suc m) k h e =
      ⊎_elim (λ q. found_same (suc m) k q e)
      (λ g. let r = found_more m k (le_of_suc-le-suc g) e in (
        member_left x (names_of t w n m) (name_at t w n m ∷ []) r.0,
        found_old (names_of t w n m) (name_at t w n m ∷ []) r.0 ∙ r.1,
      ))
      (eq-or-lt_of_le h)

  pub found_here : (m k : ℕ) → k < m → member x (names_of t w n k) ≡ false → sameb (name_at t w n k) x ≡ true → found (names_of t w n m) x ≡ Some k
  found_here m k h e d =
      let r = found_new k e d in
      (found_more m (k + 1) (omega arith) r.0).1 ∙ r.1

  pub found_none : (m : ℕ) → member x (names_of t w n m) ≡ false → found (names_of t w n m) x ≡ None
  unfolding found
  found_none m e = rw e

-- what the answer of the walk says
module _ (l : List (List ℕ)) (x : List ℕ) where
  pub found_not : found l x ≡ None → member x l ≡ false
  unfolding found
  found_not e = split (member x l) (λ q. let z : Some (index l x) ≡ None = rw q at e in cc) (λ q. q)

  pub found_some : (r : ℕ) → found l x ≡ Some r → (member x l ≡ true) × (r ≡ index l x)
  unfolding found
  found_some r e =
      split (member x l) (λ q. let z : Some (index l x) ≡ Some r = rw q at e in (q, cc))
      (λ q. let z : None ≡ Some r = rw q at e in cc)

pub found_few : (t w : List ℕ) (n m : ℕ) (x : List ℕ) (r : ℕ) → found (names_of t w n m) x ≡ Some r → r < m
found_few t w n m x r e =
    let f = found_some (names_of t w n m) x r e in
    omega (arith, f.1, index_lt x (names_of t w n m) f.0, names_length t w n m)
