-- A cut looks at the bytes that it takes and at no others: other bytes behind them are what is left.
-- For the last byte of a kind 1 record, and for the record with it changed.
use mathlib.Core.Path.{◌≡◌, refl, sym, ap, ◌∙◌}
use mathlib.Core.List.{List, [], ◌∷◌, ◌++◌}
use Prim.Native.Nat.{ℕ, ◌+◌, ◌-◌, ◌*◌, ◌≤◌}
use native.Mathlib.Omega.{arith}
use lib.Dec.{ltb}
use lib.ListN.{length, take, drop, length-drop}
use lib.Seq.{take-take, take-add, drop_at, drop-drop, get_or-take, length-take-le}
use borrow.Author.Tests.{le-ltb, ltb-false}
use Rattle.paper.specs.Lookup.{u16_at, u32_at}
use Rattle.paper.specs.Layout.{Cut, short, cut, part, then, skipped, counted, a_string, an_address, float_head}
use Rattle.paper.proofs.Tests.{split}

pub by_cut : {P : Type 0} (c : Cut) → (c ≡ short → P) → ((p : List (List ℕ)) (r : List ℕ) → c ≡ cut p r → P) → P
by_cut short f g = f refl
by_cut (cut p r) f g = g p r refl

pub not_cut : {p : List (List ℕ)} {r : List ℕ} → short ≡ cut p r → ⊥
not_cut e = let z : ◌≡◌ {A = ℕ} 0 1 = cc in omega arith

-- of the bytes l the first n are cut into the parts p
pub record Piece (f : List ℕ → Cut) (l : List ℕ) (p : List (List ℕ)) (r : List ℕ) (n : ℕ) : Type 0 where
  pub room : n ≤ length l
  pub rest : r ≡ drop n l
  pub same : (m : List ℕ) → length m ≡ length l → take n m ≡ take n l → f m ≡ cut p (drop n m)

abbrev pub Local : (List ℕ → Cut) → Type 0
Local f = (l : List ℕ) (p : List (List ℕ)) (r : List ℕ) → f l ≡ cut p r → (n : ℕ) × Piece f l p r n

-- ---- the front of some bytes
pub u32_front : (l : List ℕ) (n : ℕ) → 4 ≤ n → u32_at (take n l) 0 ≡ u32_at l 0
unfolding u32_at u16_at
u32_front l n h =
    rw (get_or-take n l 0 0 (omega arith), get_or-take n l 1 0 (omega arith), get_or-take n l 2 0 (omega arith), get_or-take n l 3 0 (omega arith))

front : (l : List ℕ) (a b : ℕ) → take a (take (a + b) l) ≡ take a l
front l a b = take-take a (a + b) l (omega arith)

middle : (l : List ℕ) (a b : ℕ) → a ≤ length l → drop a (take (a + b) l) ≡ take b (drop a l)
middle l a b h = ap (drop a) (take-add a b l) ∙ drop_at (take a l) (take b (drop a l)) a (length-take-le a l h)

-- ---- one part; a count and so many bytes
part_piece : (n : ℕ) (l : List ℕ) (p : List (List ℕ)) (r : List ℕ) → part n l ≡ cut p r → Piece (part n) l p r n
unfolding part
part_piece n l p r e =
    split (ltb (length l) n)
    (λ t. absurd (not_cut (rw t at e)))
    (λ t.
    let k : n ≤ length l = ltb-false (length l) n t in
    let q : cut (take n l ∷ []) (drop n l) ≡ cut p r = rw t at e in
    let x : p ≡ take n l ∷ [] = cc in
    let y : r ≡ drop n l = cc in
    record { room = k; rest = y; same = λ m g h. rw (le-ltb (length m) n (omega arith), h, ← x) })

pub local_part : (n : ℕ) → Local (part n)
local_part n l p r e = (n, part_piece n l p r e)

pub local_counted : (k : ℕ) → Local (counted k)
unfolding counted
local_counted k l p r e =
    split (ltb (length l) 4)
    (λ t. absurd (not_cut (rw t at e)))
    (λ t.
    let n = 4 + k * u32_at l 0 in
    let h : 4 ≤ length l = ltb-false (length l) 4 t in
    let a = part_piece n l p r (rw t at e) in (
      n,
      record {
        room = a.room;
        rest = a.rest;
        same = λ m g h.
            let u : u32_at m 0 ≡ u32_at l 0 =
            sym (u32_front m n (omega arith)) ∙ ap (λ x. u32_at x 0) h ∙ u32_front l n (omega arith) in
            rw (le-ltb (length m) 4 (omega arith), u) (a.same m g h);
      },
    ))

-- ---- a part and then others; parts left out
pub local_then : (f g : List ℕ → Cut) → Local f → Local g → Local (λ l. then (f l) g)
local_then f g a b l p r e =
    by_cut (f l)
    (λ z. absurd (not_cut (rw z at e)))
    (λ p₁ r₁ z.
    by_cut (g r₁)
    (λ y. absurd (not_cut (rw (z, y) at e)))
    (λ p₂ r₂ y.
    let x = a l p₁ r₁ z in
    let v = b r₁ p₂ r₂ y in
    let i = x.0 in
    let j = v.0 in
    let s = x.1 in
    let t = v.1 in
    let q : cut (p₁ ++ p₂) r₂ ≡ cut p r = rw (z, y) at e in
    let w : p ≡ p₁ ++ p₂ = cc in
    let o : r ≡ r₂ = cc in
    let d : length r₁ ≡ length l - i = ap length s.rest ∙ length-drop i l in
    let k : i + j ≤ length l = omega (arith, s.room, t.room) in (
      i + j,
      record {
        room = k;
        rest = o ∙ t.rest ∙ ap (drop j) s.rest ∙ drop-drop j i l;
        same = λ m c h.
            let n : i ≤ length m = omega (arith, s.room) in
            let u : f m ≡ cut p₁ (drop i m) = s.same m c (sym (front m i j) ∙ ap (take i) h ∙ front l i j) in
            let c₂ : length (drop i m) ≡ length r₁ = length-drop i m ∙ ap (λ x. x - i) c ∙ sym d in
            let h₂ : take j (drop i m) ≡ take j r₁ =
            sym (middle m i j n) ∙ ap (drop i) h ∙ middle l i j s.room ∙ ap (take j) (sym s.rest) in
            let x₂ : g (drop i m) ≡ cut p₂ (drop j (drop i m)) = t.same (drop i m) c₂ h₂ in
            rw (u, x₂, w, drop-drop j i m);
      },
    )))

pub local_skipped : (f : List ℕ → Cut) → Local f → Local (λ l. skipped (f l))
local_skipped f a l p r e =
    by_cut (f l)
    (λ z. absurd (not_cut (rw z at e)))
    (λ p₁ r₁ z.
    let x = a l p₁ r₁ z in
    let q : cut [] r₁ ≡ cut p r = rw z at e in
    let w : p ≡ [] = cc in
    let o : r ≡ r₁ = cc in
    (x.0, record { room = x.1.room; rest = o ∙ x.1.rest; same = λ m c h. rw (x.1.same m c h, w) }))

-- ---- start, end, label and typecode of a `$f`
pub local_head : Local float_head
local_head =
    let a = local_skipped (part 4) (local_part 4) in
    local_then an_address (λ m. then (an_address m) (λ k. then (a_string k) a_string)) a
    (local_then an_address (λ k. then (a_string k) a_string) a (local_then a_string a_string (local_counted 1) (local_counted 1)))
