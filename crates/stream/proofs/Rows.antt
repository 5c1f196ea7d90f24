-- Rows of bits as bytes: each bit of a row stands where it is read, and setting it gives the bytes of the row with it.
-- For the writer of an assertion's rows.
use mathlib.Core.Path.{◌≡◌, refl, sym, ap, ◌∙◌}
use mathlib.Core.Bool.{Bool, true, false}
use mathlib.Core.List.{List, [], ◌∷◌, ◌++◌}
use Prim.Native.Nat.{ℕ, zero, suc, ◌+◌, ◌-◌, ◌*◌, ◌/◌, ◌%◌, ◌^◌, ◌<◌, ◌≤◌}
use native.Mathlib.Nat.{zero-div, div-div-eq-div-mul, pow-succ', not-suc-le-zero, suc-add, suc-mul, zero-mul}
use native.Mathlib.Omega.{arith}
use lib.Dec.{eqb, ltb}
use lib.ListN.{length, get_or, take, drop, set, length-set, length-take, length-drop, length-append, replicate, length-replicate, get_or-replicate, replicate-append-replicate, get_or-append, get_or-eq_default}
use lib.Seq.{get_or-set_same, get_or-set_other, get_or-take, get_or-drop, get_or-append-add, set-append_left, set-get_or, drop-set-add, drop-set-lt, take-set-le, take-set-lt, ext_get_or}
use borrow.Author.Tests.{eqb-true, ltb-true, ltb-false}
use Rattle.paper.specs.Base.{choose, gather, table}
use Rattle.paper.specs.Records.{octet, row_bytes}
use Rattle.paper.proofs.Tests.{split, eqb_ne}
use Rattle.paper.proofs.Tables.{length_table, get_or_table, set_table}
use Rattle.stream.specs.Bits.{lit, light, bit_at, with_bit}

-- ---- one byte
bit : (b : Bool) → choose b 1 0 < 2
bit true = omega arith
bit false = omega arith

half : (c y k : ℕ) → c < 2 → (c + 2 * y) / 2 ^ suc k ≡ y / 2 ^ k
half c y k h =
    let e : (c + 2 * y) / 2 ≡ y = omega arith in
    ap (λ (p : ℕ). (c + 2 * y) / p) (pow-succ' 2 k)
    ∙ sym (div-div-eq-div-mul (c + 2 * y) 2 (2 ^ k))
    ∙ ap (λ (x : ℕ). x / 2 ^ k) e

octet_lit : (o : List Bool) (k : ℕ) → lit (octet o) k ≡ get_or o k false
unfolding lit octet
octet_lit [] k = rw zero-div
octet_lit (true ∷ o) zero = let e : (1 + 2 * octet o) / 1 % 2 ≡ 1 = omega arith in rw e
octet_lit (false ∷ o) zero = let e : (0 + 2 * octet o) / 1 % 2 ≡ 0 = omega arith in rw e
octet_lit (b ∷ o) (suc k) = rw (half (choose b 1 0) (octet o) k (bit b)) (octet_lit o k)

octet_set : (o : List Bool) (k : ℕ) → k < length o → get_or o k false ≡ false → octet (set o k true) ≡ octet o + 2 ^ k
unfolding octet
octet_set [] k h e = absurd (not-suc-le-zero h)
octet_set (b ∷ o) zero h e = let q : b ≡ false = e in rw q (omega arith)
octet_set (b ∷ o) (suc k) h e = omega (arith, octet_set o k (omega arith) e, pow-succ' 2 k)

octet_light : (o : List Bool) (k : ℕ) → k < length o → light (octet o) k ≡ octet (set o k true)
unfolding light
octet_light o k h =
    split (get_or o k false)
    (λ e. rw (octet_lit o k, e) (ap octet (sym (ap (set o k) (sym e) ∙ set-get_or o k false))))
    (λ e. rw (octet_lit o k, e) (sym (octet_set o k h e)))

-- ---- one row
abbrev byte : List Bool → ℕ → ℕ
byte r k = octet (take 8 (drop (8 * k) r))

abbrev pub row_width : ℕ → ℕ
row_width v = (v + 7) / 8

module _ (r : List Bool) (j : ℕ) (h : j < length r) where
  pub bit_row : bit_at (row_bytes r) 0 j ≡ get_or r j false
  unfolding bit_at row_bytes
  bit_row =
      let q : 0 + j / 8 ≡ j / 8 = omega arith in
      let e : 8 * (j / 8) + j % 8 ≡ j = omega arith in
      rw (q, get_or_table (byte r) (row_width (length r)) (j / 8) 0 (omega arith), octet_lit (take 8 (drop (8 * (j / 8)) r)) (j % 8))
      (get_or-take 8 (drop (8 * (j / 8)) r) (j % 8) false (omega arith)
      ∙ get_or-drop (8 * (j / 8)) r (j % 8) false
      ∙ ap (λ (i : ℕ). get_or r i false) e)

  byte_here : byte (set r j true) (j / 8) ≡ light (byte r (j / 8)) (j % 8)
  byte_here =
      let k = j / 8 in
      let i = j % 8 in
      let e : j ≡ 8 * k + i = omega arith in
      let d : drop (8 * k) (set r j true) ≡ set (drop (8 * k) r) i true =
      ap (λ (n : ℕ). drop (8 * k) (set r n true)) e ∙ drop-set-add (8 * k) r i true in
      let a : i < length (take 8 (drop (8 * k) r)) = simp (length-take, length-drop) (omega arith) in
      ap (λ (l : List Bool). octet (take 8 l)) d
      ∙ ap octet (take-set-lt 8 (drop (8 * k) r) i true (omega arith))
      ∙ sym (octet_light (take 8 (drop (8 * k) r)) i a)

  byte_other : (k : ℕ) → (k ≡ j / 8 → ⊥) → byte (set r j true) k ≡ byte r k
  byte_other k n =
      split (ltb j (8 * k))
      (λ q. ap (λ (l : List Bool). octet (take 8 l)) (drop-set-lt (8 * k) r j true (ltb-true j (8 * k) q)))
      (λ q.
      let f : 8 * k ≤ j = ltb-false j (8 * k) q in
      let i = j - 8 * k in
      let e : j ≡ 8 * k + i = omega arith in
      let d : drop (8 * k) (set r j true) ≡ set (drop (8 * k) r) i true =
      ap (λ (n : ℕ). drop (8 * k) (set r n true)) e ∙ drop-set-add (8 * k) r i true in
      ap (λ (l : List Bool). octet (take 8 l)) d
      ∙ ap octet (take-set-le 8 (drop (8 * k) r) i true (omega arith)))

  pub row_set : with_bit (row_bytes r) 0 j ≡ row_bytes (set r j true)
  unfolding with_bit row_bytes
  row_set =
      let q : 0 + j / 8 ≡ j / 8 = omega arith in
      rw (q, length-set r j true, get_or_table (byte r) (row_width (length r)) (j / 8) 0 (omega arith))
      (set_table (byte r) (byte (set r j true)) (row_width (length r)) (j / 8) (light (byte r (j / 8)) (j % 8)) (omega arith) byte_here (λ i l n. byte_other i n))

pub length_row : (r : List Bool) → length (row_bytes r) ≡ row_width (length r)
unfolding row_bytes
length_row r = length_table (byte r) (row_width (length r))

-- ---- bytes after others, and before others
set_right : (a b : List ℕ) (i x : ℕ) → set (a ++ b) (length a + i) x ≡ a ++ set b i x
set_right [] b i x = let e : 0 + i ≡ i = omega arith in rw e
set_right (y ∷ a) b i x = rw suc-add (ap (λ l. y ∷ l) (set_right a b i x))

module _ (a b : List ℕ) (p j : ℕ) where
  pub bit_right : bit_at (a ++ b) (length a + p) j ≡ bit_at b p j
  unfolding bit_at
  bit_right =
      let e : (length a + p) + j / 8 ≡ length a + (p + j / 8) = omega arith in
      rw (e, get_or-append-add a b (p + j / 8) 0)

  pub with_right : with_bit (a ++ b) (length a + p) j ≡ a ++ with_bit b p j
  unfolding with_bit
  with_right =
      let e : (length a + p) + j / 8 ≡ length a + (p + j / 8) = omega arith in
      rw (e, get_or-append-add a b (p + j / 8) 0) (set_right a b (p + j / 8) _)

  pub bit_left : p + j / 8 < length a → bit_at (a ++ b) p j ≡ bit_at a p j
  unfolding bit_at
  bit_left h = rw (get_or-append a b 0 (p + j / 8) h)

  pub with_left : p + j / 8 < length a → with_bit (a ++ b) p j ≡ with_bit a p j ++ b
  unfolding with_bit
  with_left h = rw (get_or-append a b 0 (p + j / 8) h) (set-append_left a b (p + j / 8) _ h)

-- ---- rows of one width after one another
abbrev pub Wide : ℕ → List (List Bool) → Type 0
Wide v l = (i : ℕ) → i < length l → length (get_or l i []) ≡ v

abbrev pub lit_up : List (List Bool) → ℕ → ℕ → List (List Bool)
lit_up l i j = set l i (set (get_or l i []) j true)

pub wide_lit : (v : ℕ) (l : List (List Bool)) (i j : ℕ) → Wide v l → Wide v (lit_up l i j)
wide_lit v l i j w k h =
    let x = set (get_or l i []) j true in
    let m : k < length l = omega (arith, length-set l i x) in
    split (eqb k i)
    (λ q.
    let e : k ≡ i = eqb-true k i q in
    let n : i < length l = omega arith in
    rw e (ap length (get_or-set_same l i x [] n) ∙ length-set (get_or l i []) j true ∙ w i n))
    (λ q. ap length (get_or-set_other l i k x [] (eqb_ne q)) ∙ w k m)

pub length_rows : (v : ℕ) (l : List (List Bool)) → Wide v l → length (gather row_bytes l) ≡ length l * row_width v
unfolding gather
length_rows v [] w = sym (zero-mul (row_width v))
length_rows v (r ∷ l) w =
    let e : length (row_bytes r) ≡ row_width v = length_row r ∙ ap row_width (w 0 (omega arith)) in
    length-append (row_bytes r) (gather row_bytes l)
    ∙ ap (λ (n : ℕ). n + length (gather row_bytes l)) e
    ∙ ap (λ (n : ℕ). row_width v + n) (length_rows v l (λ i h. w (suc i) (omega arith)))
    ∙ omega (arith, suc-mul (length l) (row_width v))

module _ (v j : ℕ) (g : j < v) where
  pub bit_rows : (l : List (List Bool)) (i : ℕ) → Wide v l → i < length l → bit_at (gather row_bytes l) (i * row_width v) j ≡ get_or (get_or l i []) j false
  unfolding gather
  bit_rows [] i w h = absurd (not-suc-le-zero h)
  bit_rows (r ∷ l) zero w h =
      let e : length r ≡ v = w 0 (omega arith) in
      let z : zero * row_width v ≡ 0 = zero-mul (row_width v) in
      rw z (bit_left (row_bytes r) (gather row_bytes l) 0 j (omega (arith, length_row r, e)) ∙ bit_row r j (omega (arith, e)))
  bit_rows (r ∷ l) (suc i) w h =
      let e : length (row_bytes r) ≡ row_width v = length_row r ∙ ap row_width (w 0 (omega arith)) in
      let z : suc i * row_width v ≡ length (row_bytes r) + i * row_width v = omega (arith, suc-mul i (row_width v), e) in
      rw z (bit_right (row_bytes r) (gather row_bytes l) (i * row_width v) j ∙ bit_rows l i (λ k m. w (suc k) (omega arith)) (omega arith))

  pub set_rows : (l : List (List Bool)) (i : ℕ) → Wide v l → i < length l → with_bit (gather row_bytes l) (i * row_width v) j ≡ gather row_bytes (lit_up l i j)
  unfolding gather
  set_rows [] i w h = absurd (not-suc-le-zero h)
  set_rows (r ∷ l) zero w h =
      let e : length r ≡ v = w 0 (omega arith) in
      let z : zero * row_width v ≡ 0 = zero-mul (row_width v) in
      rw z
      (with_left (row_bytes r) (gather row_bytes l) 0 j (omega (arith, length_row r, e))
      ∙ ap (λ (b : List ℕ). b ++ gather row_bytes l) (row_set r j (omega (arith, e))))
  set_rows (r ∷ l) (suc i) w h =
      let e : length (row_bytes r) ≡ row_width v = length_row r ∙ ap row_width (w 0 (omega arith)) in
      let z : suc i * row_width v ≡ length (row_bytes r) + i * row_width v = omega (arith, suc-mul i (row_width v), e) in
      rw z
      (with_right (row_bytes r) (gather row_bytes l) (i * row_width v) j
      ∙ ap (λ (b : List ℕ). row_bytes r ++ b) (set_rows l i (λ k m. w (suc k) (omega arith)) (omega arith)))

-- ---- rows of zeros
dark : (v i : ℕ) → get_or (replicate v false) i false ≡ false
dark zero i = refl
dark (suc v) zero = refl
dark (suc v) (suc i) = dark v i

octet_dark : (o : List Bool) → ((i : ℕ) → get_or o i false ≡ false) → octet o ≡ 0
unfolding octet
octet_dark [] h = refl
octet_dark (b ∷ o) h = let e : b ≡ false = h 0 in rw e (omega (arith, octet_dark o (λ i. h (suc i))))

byte_dark : (v k : ℕ) → byte (replicate v false) k ≡ 0
byte_dark v k =
    let l = drop (8 * k) (replicate v false) in
    octet_dark (take 8 l)
    (λ i.
    split (ltb i 8)
    (λ q. get_or-take 8 l i false (ltb-true i 8 q) ∙ get_or-drop (8 * k) (replicate v false) i false ∙ dark v (8 * k + i))
    (λ q. get_or-eq_default (take 8 l) false (simp length-take (omega (arith, ltb-false i 8 q)))))

pub row_dark : (v : ℕ) → row_bytes (replicate v false) ≡ replicate (row_width v) 0
unfolding row_bytes
row_dark v =
    let n : length (replicate v false) ≡ v = length-replicate v false in
    rw n
    (ext_get_or 0 (table (byte (replicate v false)) (row_width v)) (replicate (row_width v) 0)
    (length_table (byte (replicate v false)) (row_width v) ∙ sym (length-replicate (row_width v) 0))
    (λ i h.
    let k : i < row_width v = omega (arith, length_table (byte (replicate v false)) (row_width v)) in
    get_or_table (byte (replicate v false)) (row_width v) i 0 k ∙ byte_dark v i ∙ sym (get_or-replicate (row_width v) i 0 0 k)))

-- n rows of v bits, none of them set
pub rows_dark : (v n : ℕ) → gather row_bytes (replicate n (replicate v false)) ≡ replicate (n * row_width v) 0
unfolding gather
rows_dark v zero = sym (ap (λ (k : ℕ). replicate k 0) (zero-mul (row_width v)))
rows_dark v (suc n) =
    let e : row_width v + n * row_width v ≡ suc n * row_width v = omega (arith, suc-mul n (row_width v)) in
    rw (row_dark v, rows_dark v n)
    (replicate-append-replicate (row_width v) (n * row_width v) 0 ∙ ap (λ (k : ℕ). replicate k 0) e)

pub wide_dark : (v n : ℕ) → Wide v (replicate n (replicate v false))
wide_dark v n i h =
    rw (get_or-replicate n i (replicate v false) [] (omega (arith, length-replicate n (replicate v false)))) (length-replicate v false)
