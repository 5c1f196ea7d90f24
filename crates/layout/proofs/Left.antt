-- What is left after parts: after one, after one and then others, after so many of the same.
-- For the functions that walk over a record.
use mathlib.Core.Path.{◌≡◌, refl, sym, ap, ◌∙◌}
use mathlib.Core.Logic.{◌⊎◌, inl, inr}
use mathlib.Core.List.{List}
use Prim.Native.Nat.{ℕ, zero, suc, ◌+◌, ◌-◌, ◌*◌, ◌<◌, ◌≤◌}
use native.Mathlib.Nat.{not-suc-le-zero}
use native.Mathlib.Omega.{arith}
use denote.Ref.{Bor}
use lib.Dec.{eqb, ltb}
use lib.ListN.{length, drop}
use borrow.Author.Tests.{lt-ltb, le-ltb, ltb-false, eqb-true, ne_eqb}
use Rattle.std.specs.Prelude.{Option, Some, None, option_copied, MatchOption, slice_range}
use Rattle.std.proofs.lemmas.Slice.{between_to_end}
use Rattle.std.proofs.lemmas.Option.{none-some}
use Rattle.paper.specs.Lookup.{u16_at, u32_at}
use Rattle.paper.specs.Layout.{Cut, short, cut, with_parts, part, then, whole, skipped, times, counted, a_string, a_stub, float_head, names_part}
use Rattle.paper.proofs.Tests.{split, eqb_ne}
use Rattle.layout.specs.Cuts.{left, assertion_parts, payload_parts}

-- ---- what a function answers, by its cases
pub some_left : (c : Cut) {r : Option (Bor (List ℕ))} {x : Bor (List ℕ)} → option_copied r ≡ left c → r ≡ Some x → left c ≡ Some x.now
some_left c e z = sym e ∙ ap option_copied z

pub none_left : (c : Cut) {r : Option (Bor (List ℕ))} → option_copied r ≡ left c → r ≡ None → left c ≡ None
none_left c e z = sym e ∙ ap option_copied z

-- ---- one part
pub part_short : (n : ℕ) (l : List ℕ) → length l < n → left (part n l) ≡ None
unfolding part
part_short n l h = rw (lt-ltb (length l) n h)

pub part_left : (n : ℕ) (l : List ℕ) → n ≤ length l → left (part n l) ≡ Some (drop n l)
unfolding part
part_left n l h = rw (le-ltb (length l) n h)

-- what `get` of the bytes from n on answers
pub got_part : (n : ℕ) (l : List ℕ) (r : Option (Bor (List ℕ)))
    → MatchOption r ((length l < n) ⊎ (length l < length l)) (λ x. (n ≤ length l) × (length l ≤ length l) × (x.now ≡ slice_range l n (length l)) × (length x.now + n ≡ length l))
    → option_copied r ≡ left (part n l)
got_part n l None h = sym (part_short n l (elim h [ inl a ↦ a | inr b ↦ absurd (omega arith) ]))
got_part n l (Some x) h =
    let e : x.now ≡ drop n l = h.2 ∙ between_to_end l n (length l) h.1 in
    rw e (sym (part_left n l h.0))

pub record Parted (n : ℕ) (l r : List ℕ) : Type 0 where
  pub room : n ≤ length l
  pub rest : r ≡ drop n l

pub parted : (n : ℕ) (l r : List ℕ) → left (part n l) ≡ Some r → Parted n l r
unfolding part
parted n l r z =
    split (ltb (length l) n)
    (λ q. absurd (none-some r (rw q at z)))
    (λ q. let e : Some (drop n l) ≡ Some r = rw q at z in let d : drop n l ≡ r = cc in record { room = ltb-false (length l) n q; rest = sym d })

-- ---- a count, and so many times k bytes
pub counted_short : (k : ℕ) (l : List ℕ) → length l < 4 → left (counted k l) ≡ None
unfolding counted
counted_short k l h = rw (lt-ltb (length l) 4 h)

pub counted_left : (k n : ℕ) (l : List ℕ) → 4 ≤ length l → n ≡ u32_at l 0 → left (part (4 + k * n) l) ≡ left (counted k l)
unfolding counted
counted_left k n l h e = rw (le-ltb (length l) 4 h, e)

-- ---- a part and then others
pub left_with : (p : List (List ℕ)) (c : Cut) → left (with_parts p c) ≡ left c
left_with p short = refl
left_with p (cut q r) = refl

pub left_then : (c : Cut) {r : List ℕ} (f : List ℕ → Cut) → left c ≡ Some r → left (then c f) ≡ left (f r)
left_then short {r} f z = absurd (none-some r z)
left_then (cut p q) {r} f z = let e : q ≡ r = cc in left_with p (f q) ∙ ap (λ l. left (f l)) e

pub none_then : (c : Cut) (f : List ℕ → Cut) → left c ≡ None → left (then c f) ≡ None
none_then short f z = refl
none_then (cut p q) f z = absurd (none-some q (sym z))

pub left_whole : (c : Cut) → left (whole c) ≡ left c
left_whole short = refl
left_whole (cut p r) = refl

pub left_skipped : (c : Cut) → left (skipped c) ≡ left c
left_skipped short = refl
left_skipped (cut p r) = refl

-- ---- so many times the same: n are left to pass over
pub times_none : (n : ℕ) (f : List ℕ → Cut) (l : List ℕ) → n ≤ 0 → Some l ≡ left (times n f l)
unfolding times
times_none zero f l h = refl
times_none (suc n) f l h = absurd (not-suc-le-zero h)

pub times_short : (n : ℕ) (f : List ℕ → Cut) (l : List ℕ) → 0 < n → left (f l) ≡ None → None ≡ left (times n f l)
unfolding times
times_short zero f l h z = absurd (not-suc-le-zero h)
times_short (suc n) f l h z = sym (none_then (f l) (times n f) z)

pub times_more : (n : ℕ) (f : List ℕ → Cut) (l : List ℕ) {r : List ℕ} → 0 < n → left (f l) ≡ Some r → left (times (n - 1) f r) ≡ left (times n f l)
unfolding times
times_more zero f l h z = absurd (not-suc-le-zero h)
times_more (suc n) f l {r} h z =
    let e : suc n - 1 ≡ n = omega arith in
    rw e (sym (left_then (f l) (times n f) z))

-- ---- V, M and V strings; and that V and M are there
pub names_passed : (b : List ℕ) {r : List ℕ} (n : ℕ) → n ≡ u16_at b 0 → left (part 4 b) ≡ Some r
    → left (whole (then (part 4 b) (times (u16_at b 0) a_string))) ≡ left (times n a_string r)
names_passed b n e z = left_whole _ ∙ left_then (part 4 b) _ z ∙ rw e

pub names_room : (l : List ℕ) {r : List ℕ} → left (names_part l) ≡ Some r → 4 ≤ length l
unfolding names_part part
names_room l {r} z =
    split (ltb (length l) 4) (λ q. absurd (none-some r (rw q at z))) (λ q. ltb-false (length l) 4 q)

-- ---- the payload of each kind
module _ (k : ℕ) (l : List ℕ) where
  pub payload_plain : k ≡ 4 → left (then (float_head l) a_string) ≡ left (payload_parts k l)
  unfolding payload_parts
  payload_plain e = sym (rw e)

  pub payload_stub : k ≡ 1 → left (then (float_head l) a_stub) ≡ left (payload_parts k l)
  unfolding payload_parts
  payload_stub e = sym (rw e)

  pub payload_assertion : 2 ≤ k → k ≤ 3 → left (assertion_parts l) ≡ left (payload_parts k l)
  unfolding payload_parts
  payload_assertion a b =
      split (eqb k 2)
      (λ q. let e : k ≡ 2 = eqb-true k 2 q in sym (rw e))
      (λ q. let n : k ≡ 2 → ⊥ = eqb_ne q in let e : k ≡ 3 = omega arith in sym (rw e))

  pub payload_none : (k < 1) ⊎ (4 < k) → None ≡ left (payload_parts k l)
  unfolding payload_parts
  payload_none h =
      let other : (n : ℕ) → 1 ≤ n → n ≤ 4 → k ≡ n → ⊥ = λ n a b e. elim h [ inl c ↦ omega arith | inr c ↦ omega arith ] in
      sym
      (rw (ne_eqb k 4 (other 4 (omega arith) (omega arith)), ne_eqb k 1 (other 1 (omega arith) (omega arith)), ne_eqb k 2 (other 2 (omega arith) (omega arith)), ne_eqb k 3 (other 3 (omega arith) (omega arith))))
