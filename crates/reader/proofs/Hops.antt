-- Proofs passed by their bytes: between the two places stand math tokens only, for no byte there is a `$` or a bad one.
-- Assumes nothing.
use mathlib.Core.Path.{◌≡◌, refl, sym, ap, ◌∙◌}
use Rattle.std.proofs.Common.{◌⊎◌, inl, inr}
use mathlib.Core.Bool.{true, false}
use mathlib.Core.List.{List, [], ◌∷◌, ◌++◌}
use Prim.Native.Nat.{ℕ, suc, ◌+◌, ◌-◌, ◌<◌, ◌≤◌, suc-le-suc}
use native.Mathlib.Omega.{arith}
use lib.Dec.{eqb, ltb}
use lib.ListN.{length, get_or, take, drop, length-drop}
use lib.Seq.{get_or-drop, get_or-take, length-take-le}
use borrow.Author.Tests.{le-leb, lt-leb, ltb-true, ltb-false, eqb-true, ne_eqb}
use Rattle.paper.specs.Base.{all}
use Rattle.paper.specs.Bytes.{white, math_byte}
use Rattle.paper.specs.Tokens.{Token, put, run, toks, math_token}
use Rattle.paper.specs.Comments.{outside, after, visible}
use Rattle.paper.proofs.Tests.{split, clash, eqb_ne}
use Rattle.paper.proofs.Keys.{math_no_key}
use Rattle.token.specs.Class.{class}
use Rattle.token.proofs.Classes.{class_white, class_math}
use Rattle.token.proofs.Parts.{part_tokens}
use Rattle.reader.specs.Hops.{plain, Plain, Hopped}
use Rattle.reader.specs.Dollar.{Begins}
use Rattle.reader.proofs.Passes.{tokens_white, passed_none}

-- what the code's comparisons say of a byte b of class c
pub odd_class : (b : ℕ) {c : ℕ} → c ≡ class b → (c ≡ 0) ⊎ ((c ≡ 0 → ⊥) × (c ≡ 2)) → plain b ≡ false
odd_class b {c} p o = odd (elim o [ inl z ↦ (λ e. omega (arith, e, z), omega (arith, z)) | inr z ↦ (λ e. omega (arith, e, z.1), omega (arith, z.1)) ])
  where
    odd : (c ≡ 1 → ⊥) × (c < 3) → plain b ≡ false
    odd h =
        rw (sym (class_white b) ∙ ne_eqb (class b) 1 (λ e. h.0 (p ∙ e)))
        (sym (class_math b) ∙ lt-leb 3 (class b) (omega (arith, p, h.1)))

pub plain_class : (b : ℕ) {c : ℕ} → c ≡ class b → (c ≡ 2 → ⊥) → (c ≡ 0 → ⊥) → plain b ≡ true
plain_class b {c} p m n =
    split (white b)
    (λ w. rw w)
    (λ w.
    let o : class b ≡ 1 → ⊥ = eqb_ne (class_white b ∙ w) in
    let a : class b ≡ 2 → ⊥ = λ e. m (p ∙ e) in
    let z : class b ≡ 0 → ⊥ = λ e. n (p ∙ e) in
    rw w (sym (class_math b) ∙ le-leb 3 (class b) (omega arith)))

-- one byte more
pub plain_next : {t : List ℕ} {at i : ℕ} → Plain t at i → i < length t → plain (get_or t i 0) ≡ true → Plain t at (i + 1)
plain_next {t} {at} {i} h l e =
    record {
      from = omega (arith, h.from);
      within = omega arith;
      bytes = λ j a b. split (eqb j i)
          (λ q. let z : j ≡ i = eqb-true j i q in rw z e)
          (λ q. let z : j ≡ i → ⊥ = eqb_ne q in h.bytes j a (omega (arith, z)));
    }

-- one byte back, which is no white space
pub inside_more : (t : List ℕ) (k i : ℕ) → 0 < i → ((j : ℕ) → i ≤ j → j < k → white (get_or t j 0) ≡ false) → white (get_or t (i - 1) 0) ≡ false
    → (j : ℕ) → i - 1 ≤ j → j < k → white (get_or t j 0) ≡ false
inside_more t k i l f e j a b =
    split (eqb j (i - 1))
    (λ q. let z : j ≡ i - 1 = eqb-true j (i - 1) q in rw z e)
    (λ q. let z : j ≡ i - 1 → ⊥ = eqb_ne q in f j (omega (arith, z)) b)

-- ---- tokens of such bytes, by the list
put_plain : (o : ℕ) (h : List ℕ) (l : List Token) → all math_byte h ≡ true → all math_token l ≡ true → all math_token (put o h l) ≡ true
unfolding all math_token
put_plain o [] l p q = q
put_plain o (b ∷ h) l p q = rw p q

run_plain : (l : List ℕ) (o : ℕ) → ((j : ℕ) → j < length l → plain (get_or l j 0) ≡ true)
    → (all math_byte (run l o).head ≡ true) × (all math_token (run l o).rest ≡ true)
unfolding run all
run_plain [] o f = (refl, refl)
run_plain (b ∷ l) o f =
    let r = run_plain l (suc o) (λ j h. f (suc j) (suc-le-suc h)) in
    split (white b)
    (λ w. rw w (refl, put_plain (suc o) (run l (suc o)).head (run l (suc o)).rest r.0 r.1))
    (λ w. let m : math_byte b ≡ true = rw w at (f 0 (omega arith)) in rw (w, m) (r.0, r.1))

toks_plain : (l : List ℕ) (o : ℕ) → ((j : ℕ) → j < length l → plain (get_or l j 0) ≡ true) → all math_token (toks l o) ≡ true
unfolding toks
toks_plain l o f =
    let r = run_plain l o f in put_plain o (run l o).head (run l o).rest r.0 r.1

-- math tokens are no comments
visible_math : (l : List Token) → all math_token l ≡ true → (visible l outside ≡ l) × (after l outside ≡ outside)
unfolding all visible after
visible_math [] e = (refl, refl)
visible_math (x ∷ l) e =
    split (math_token x)
    (λ m.
    let h = visible_math l (rw m at e) in
    rw (math_no_key 40 x m) (ap (λ (r : List Token). x ∷ r) h.0, h.1))
    (λ m. absurd (clash (sym (rw m at e))))

-- ---- by the offset
hopped_none : (t : List ℕ) (i : ℕ) → Hopped t i i
unfolding all
hopped_none t i = record { ps = []; passed = passed_none t i outside; maths = refl }

pub hopped : {t : List ℕ} {i k s : ℕ} → Plain t i k → Begins t i k s → Hopped t i s
hopped {t} {i} {k} {s} p b =
    split (ltb i s)
    (λ z. far (ltb-true i s z))
    (λ z. let q : s ≡ i = omega (arith, ltb-false i s z, b.from) in rw q (hopped_none t i))
  where
    far : i < s → Hopped t i s
    far h =
        let m = s - 1 - i in
        let l : length (take m (drop i t)) ≡ m = length-take-le m (drop i t) (omega (arith, length-drop i t, b.upto, p.within)) in
        let f : (j : ℕ) → j < length (take m (drop i t)) → plain (get_or (take m (drop i t)) j 0) ≡ true =
        λ j g. rw (get_or-take m (drop i t) j 0 (omega (arith, l)), get_or-drop) (p.bytes (i + j) (omega arith) (omega (arith, l, b.upto))) in
        let a = toks_plain (take m (drop i t)) i f in
        let v = visible_math (toks (take m (drop i t)) i) a in
        record {
          ps = toks (take m (drop i t)) i;
          passed = record {
            pre = toks (take m (drop i t)) i;
            split = part_tokens t i (s - 1) (omega arith) (omega (arith, b.upto, p.within)) (λ g. b.opens h)
                ∙ ap (λ (r : List Token). toks (take m (drop i t)) i ++ r) (tokens_white t s (omega arith) (omega (arith, b.upto, p.within)) (b.opens h));
            shows = v.0;
            place = v.1;
          };
          maths = a;
        }
