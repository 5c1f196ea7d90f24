-- The rows of bits by the pairs found, and the mandatory pairs each once: what one more pair adds.
-- Assumes nothing.
use mathlib.Core.Path.{◌≡◌, refl, sym, ap, ◌∙◌}
use mathlib.Core.Logic.{◌≢◌}
use mathlib.Core.Bool.{Bool, true, false}
use mathlib.Core.List.{List, [], ◌∷◌, ◌++◌, append_assoc, append-nil}
use Prim.Native.Nat.{ℕ, zero, suc, ◌*◌, ◌<◌, ◌≤◌}
use native.Mathlib.Numerals.{add-one}
use native.Mathlib.Omega.{arith}
use lib.Dec.{eqb}
use lib.ListN.{length, get_or, set, replicate, length-append, replicate-append-replicate}
use borrow.Author.Tests.{eqb-true, eq-eqb, ne_eqb, lt-ltb}
use Rattle.paper.specs.Base.{and, or, not, any, keep, gather, table}
use Rattle.paper.specs.Pairs.{Pair, pair, same_pair, new_pair, new_pairs}
use Rattle.paper.specs.Records.{pair_bytes, u16}
use Rattle.paper.proofs.Tests.{split, clash}
use Rattle.paper.proofs.Lists.{keep_append}
use Rattle.paper.proofs.Tables.{length_table, get_or_table, set_table}
use Rattle.paper.proofs.Made.{table_same}
use Rattle.stream.proofs.Records.{length_u16}
use Rattle.stream.proofs.Rows.{Wide, lit_up}
use Rattle.disjoint.specs.Found.{both, meets}
use Rattle.disjoint.specs.Drawn.{once, bit_of, square_of, square}
use Rattle.disjoint.proofs.New.{any_same, new_last, same_crossed}
use Rattle.disjoint.proofs.Count.{meets_last}
use Rattle.disjoint.proofs.Bools.{or_true, or_false, and_false}

-- ---- rows made by a rule
pub length_square : (s : List Pair) (v : ℕ) → length (square s v) ≡ v
unfolding square
length_square s v = length_table (λ i. table (bit_of s i) v) v

pub wide_square : (s : List Pair) (v : ℕ) → Wide v (square s v)
unfolding square
wide_square s v i h =
    let k : i < v = omega (arith, length_table (λ i. table (bit_of s i) v) v) in
    ap length (get_or_table (λ i. table (bit_of s i) v) v i [] k) ∙ length_table (bit_of s i) v

pub bit_square : (s : List Pair) (v i j : ℕ) → i < v → j < v → get_or (get_or (square s v) i []) j false ≡ bit_of s i j
unfolding square
bit_square s v i j h k =
    ap (λ r. get_or r j false) (get_or_table (λ i. table (bit_of s i) v) v i [] h) ∙ get_or_table (bit_of s i) v j false k

pub square_same :
    (f g : ℕ → ℕ → Bool) (v : ℕ) → ((i j : ℕ) → i < v → j < v → f i j ≡ g i j) → square_of f v ≡ square_of g v
square_same f g v h = table_same _ _ v (λ i l. table_same (f i) (g i) v (λ j m. h i j l m))

-- one bit more
lit_square :
    (f g : ℕ → ℕ → Bool) (v i j : ℕ) → i < v → j < v → g i j ≡ true
    → ((a b : ℕ) → a < v → b < v → (a ≡ i → b ≡ j → ⊥) → g a b ≡ f a b) → lit_up (square_of f v) i j ≡ square_of g v
lit_square f g v i j h k e s =
    ap (λ r. set (square_of f v) i (set r j true)) (get_or_table (λ a. table (f a) v) v i [] h)
    ∙ set_table (λ a. table (f a) v) (λ a. table (g a) v) v i (set (table (f i) v) j true) h
    (sym (set_table (f i) (g i) v j true k e (λ b l n. s i b h l (λ p q. n q))))
    (λ a l n. table_same (g a) (f a) v (λ b m. s a b l m (λ p q. n p)))

-- the two tests at once
both_no : (a x b y : ℕ) → (a ≡ x → b ≡ y → ⊥) → and (eqb a x) (eqb b y) ≡ false
both_no a x b y n =
    split (eqb a x)
    (λ p. split (eqb b y) (λ q. absurd (n (eqb-true a x p) (eqb-true b y q))) (λ q. rw (p, q)))
    (λ p. rw p)

module _ (s : List Pair) (x y v : ℕ) (h : x < v) (k : y < v) (n : x ≢ y) where
  abbrev half : ℕ → ℕ → Bool
  half a b = or (bit_of s a b) (and (eqb a x) (eqb b y))

  first_bit : lit_up (square_of (bit_of s) v) x y ≡ square_of half v
  first_bit =
      lit_square (bit_of s) half v x y h k
      (rw (eq-eqb x x refl, eq-eqb y y refl) (or_true (bit_of s x y)))
      (λ a b l m d. rw (both_no a x b y d) (or_false (bit_of s a b)))

  second_bit : lit_up (square_of half v) y x ≡ square_of (bit_of (s ++ (pair x y ∷ []))) v
  second_bit =
      lit_square half (bit_of (s ++ (pair x y ∷ []))) v y x k h
      (rw (ne_eqb y x (λ q. n (sym q)), meets_last s (pair x y) y x, same_crossed (pair y x) (pair x y) refl refl)
      (or_true (meets s y x)))
      (λ a b l m d.
      rw (meets_last s (pair x y) a b, both_no a y b x d)
      (split (eqb a b)
      (λ q.
      let c : a ≡ b = eqb-true a b q in
      rw (q, both_no a x b y (λ e f. n (sym e ∙ c ∙ f))))
      (λ q. rw (q, or_false (and (eqb a x) (eqb b y))))))

  pub square_more : lit_up (lit_up (square s v) x y) y x ≡ square (s ++ (pair x y ∷ [])) v
  unfolding square
  square_more = ap (λ r. lit_up r y x) first_bit ∙ second_bit

-- a pair that is there already
meets_same : (s : List Pair) (x y a b : ℕ) → same_pair (pair a b) (pair x y) ≡ true → meets s a b ≡ meets s x y
unfolding meets
meets_same s x y a b q = any_same (pair a b) (pair x y) s q

pub square_again :
    (s : List Pair) (x y v : ℕ) → meets s x y ≡ true → square (s ++ (pair x y ∷ [])) v ≡ square s v
unfolding square
square_again s x y v e =
    square_same (bit_of (s ++ (pair x y ∷ []))) (bit_of s) v
    (λ a b l m.
    ap (and (not (eqb a b)))
    (meets_last s (pair x y) a b
    ∙ split (same_pair (pair a b) (pair x y))
    (λ q. let z : meets s a b ≡ true = meets_same s x y a b q ∙ e in rw z)
    (λ q. rw q (or_false (meets s a b)))))

-- a pair beyond the rows
beyond_same : (a b x y v : ℕ) → a < v → b < v → both v (pair x y) ≡ false → same_pair (pair a b) (pair x y) ≡ false
beyond_same a b x y v l m e =
    rw (
      both_no a x b y (λ p q. clash (sym (rw (lt-ltb x v (omega (arith, p)), lt-ltb y v (omega (arith, q)))) ∙ e)),
      both_no a y b x (λ p q. clash (sym (rw (lt-ltb x v (omega (arith, q)), lt-ltb y v (omega (arith, p)))) ∙ e)),
    )

pub square_beyond : (s : List Pair) (x y v : ℕ) → both v (pair x y) ≡ false → square (s ++ (pair x y ∷ [])) v ≡ square s v
unfolding square
square_beyond s x y v e =
    square_same (bit_of (s ++ (pair x y ∷ []))) (bit_of s) v
    (λ a b l m.
    ap (and (not (eqb a b))) (meets_last s (pair x y) a b ∙ rw (beyond_same a b x y v l m e) (or_false (meets s a b))))

-- no pair at all
table_const : {A : Type 0} (a : A) (n : ℕ) → table (λ i. a) n ≡ replicate n a
unfolding table
table_const a zero = refl
table_const a (suc n) =
    ap (λ l. l ++ (a ∷ [])) (table_const a n)
    ∙ replicate-append-replicate n 1 a
    ∙ ap (λ k. replicate k a) (add-one n)

pub square_none : (v : ℕ) → square [] v ≡ replicate v (replicate v false)
unfolding square meets any
square_none v =
    square_same (bit_of []) (λ i j. false) v (λ i j l m. and_false (not (eqb i j)))
    ∙ ap (λ r. table (λ i. r) v) (table_const false v)
    ∙ table_const (replicate v false) v

-- ---- the mandatory pairs, each once
module _ (m : ℕ) (s : List Pair) (p : Pair) where
  once_more : once m (s ++ (p ∷ [])) ≡ once m s ++ keep (both m) (new_pair s p)
  unfolding once
  once_more = ap (keep (both m)) (new_last s [] p) ∙ keep_append (both m) (new_pairs s []) (new_pair s p)

  pub once_again : any (same_pair p) s ≡ true → once m (s ++ (p ∷ [])) ≡ once m s
  unfolding keep
  once_again e = once_more ∙ rw e (append-nil (once m s))

  pub once_out : any (same_pair p) s ≡ false → both m p ≡ false → once m (s ++ (p ∷ [])) ≡ once m s
  unfolding keep
  once_out e f = once_more ∙ rw (e, f) (append-nil (once m s))

  pub once_in : any (same_pair p) s ≡ false → both m p ≡ true → once m (s ++ (p ∷ [])) ≡ once m s ++ (p ∷ [])
  unfolding keep
  once_in e f = once_more ∙ rw (e, f)

  once_grows : length (once m s) ≤ length (once m (s ++ (p ∷ [])))
  once_grows = omega (arith, ap length once_more, length-append (once m s) (keep (both m) (new_pair s p)))

-- among more pairs there are no fewer
pub once_prefix : (m : ℕ) (s t : List Pair) → length (once m s) ≤ length (once m (s ++ t))
once_prefix m s [] = omega (arith, ap (λ l. length (once m l)) (append-nil s))
once_prefix m s (p ∷ t) =
    omega (
      arith,
      once_grows m s p,
      once_prefix m (s ++ (p ∷ [])) t,
      ap (λ l. length (once m l)) (append_assoc s (p ∷ []) t),
    )

pub length_pairs : (l : List Pair) → length (gather pair_bytes l) ≡ 4 * length l
unfolding gather pair_bytes
length_pairs [] = refl
length_pairs (p ∷ l) =
    omega (
      arith,
      length-append (u16 p.left ++ u16 p.right) (gather pair_bytes l),
      length-append (u16 p.left) (u16 p.right),
      length_u16 p.left,
      length_u16 p.right,
      length_pairs l,
    )
