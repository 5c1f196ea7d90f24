-- The payload of a kind 1 record that fits: what stands before its stub string, and that the stub string ends it.
-- And so the same parts, once 128 is taken off the last byte.
use mathlib.Core.Path.{◌≡◌, refl, sym, ap, ◌∙◌}
use mathlib.Core.Bool.{true}
use mathlib.Core.List.{List, [], ◌∷◌}
use Prim.Native.Nat.{ℕ, ◌+◌, ◌*◌, ◌<◌, ◌≤◌}
use native.Mathlib.Omega.{arith}
use lib.Dec.{ltb}
use lib.ListN.{length, take, drop, length-drop}
use lib.Seq.{take_all, take-length, drop-length}
use borrow.Author.Tests.{le-ltb, ltb-false}
use Rattle.paper.specs.Lookup.{u32_at, stub_string}
use Rattle.paper.specs.Layout.{lowered, cut, part, then, counted, a_string, a_stub, float_head}
use Rattle.paper.proofs.Tests.{split, clash}
use Rattle.layout.specs.Lowers.{Lowers}
use Rattle.layout.proofs.Fit.{done, done_with}
use Rattle.layout.proofs.Lowered.{lowered_length, lowered_take, lowered_drop, stub_lowers, lowers_drop}
use Rattle.layout.proofs.Local.{by_cut, u32_front, local_head}

-- ---- a stub string to the last byte
pub record Ending (r : List ℕ) : Type 0 where
  pub size : length r ≡ 4 + u32_at r 0
  pub stub : stub_string (drop 4 r) ≡ true

all_cut : (p : List (List ℕ)) (r : List ℕ) → done (cut p r) ≡ true → length r ≡ 0
all_cut p [] e = refl
all_cut p (b ∷ r) e = absurd (clash (sym e))

pub stub_ending : (r : List ℕ) → done (a_stub r) ≡ true → Ending r
unfolding a_stub counted part
stub_ending r e =
    split (ltb (length r) 4)
    (λ t. absurd (clash (sym (rw t at e))))
    (λ t.
    split (ltb (length r) (4 + 1 * u32_at r 0))
    (λ u. absurd (clash (sym (rw (t, u) at e))))
    (λ u.
    split (stub_string (drop 4 (take (4 + 1 * u32_at r 0) r)))
    (λ v.
    let n = 4 + 1 * u32_at r 0 in
    let k : n ≤ length r = ltb-false (length r) n u in
    let z : length (drop n r) ≡ 0 = all_cut (lowered (take n r) ∷ []) (drop n r) (rw (t, u, v) at e) in
    let s : length r ≡ n = omega (arith, length-drop n r) in
    record { size = omega arith; stub = ap (λ x. stub_string (drop 4 x)) (sym (take_all n r (omega arith))) ∙ v })
    (λ v. absurd (clash (sym (rw (t, u, v) at e))))))

-- taken apart: the string itself, with 128 off its last byte
ending_stub : (r : List ℕ) → Ending r → a_stub r ≡ cut (lowered r ∷ []) []
unfolding a_stub counted part
ending_stub r a =
    let n : 4 + 1 * u32_at r 0 ≡ length r = omega (arith, a.size) in
    rw (le-ltb (length r) 4 (omega (arith, a.size)), n, le-ltb (length r) (length r) (omega arith), take-length r, drop-length r, a.stub)

ending_plain : (r : List ℕ) → Ending r → a_string (lowered r) ≡ cut (lowered r ∷ []) []
unfolding counted part
ending_plain r a =
    let m = lowered r in
    let k = stub_lowers (drop 4 r) a.stub in
    let l : length m ≡ length r = lowered_length r in
    let f : 4 < length r = omega (arith, k.some, length-drop 4 r) in
    let u : u32_at m 0 ≡ u32_at r 0 =
    sym (u32_front m 4 (omega arith)) ∙ ap (λ x. u32_at x 0) (lowered_take r 4 f) ∙ u32_front r 4 (omega arith) in
    let n : 4 + 1 * u32_at r 0 ≡ length m = omega (arith, a.size) in
    rw (u, le-ltb (length m) 4 (omega arith), n, le-ltb (length m) (length m) (omega arith), take-length m, drop-length m)

-- ---- the whole payload
pub record Stubbed (l : List ℕ) : Type 0 where
  pub parts : List (List ℕ)
  pub size : ℕ
  pub head : (m : List ℕ) → length m ≡ length l → take size m ≡ take size l → float_head m ≡ cut parts (drop size m)
  pub ending : Ending (drop size l)

pub stubbed : (l : List ℕ) → done (then (float_head l) a_stub) ≡ true → Stubbed l
stubbed l e =
    by_cut (float_head l)
    (λ z. absurd (clash (sym (rw z at e))))
    (λ p r z.
    let x = local_head l p r z in
    let d : done (a_stub r) ≡ true = sym (done_with p (a_stub r)) ∙ rw z at e in
    record { parts = p; size = x.0; head = x.1.same; ending = rw x.1.rest at (stub_ending r d) })

ending_room : (l : List ℕ) (k : ℕ) → Ending (drop k l) → k < length l
ending_room l k a = omega (arith, a.size, length-drop k l)

pub stubbed_lowers : (l : List ℕ) → Stubbed l → Lowers l
stubbed_lowers l a =
    lowers_drop l a.size (lowers_drop (drop a.size l) 4 (stub_lowers (drop 4 (drop a.size l)) a.ending.stub))

-- with 128 off the last byte the parts are the same
pub stubbed_plain : (l : List ℕ) → Stubbed l → then (float_head (lowered l)) a_string ≡ then (float_head l) a_stub
stubbed_plain l a =
    let k = a.size in
    let g : k < length l = ending_room l k a.ending in
    let h : float_head (lowered l) ≡ cut a.parts (lowered (drop k l)) =
    a.head (lowered l) (lowered_length l) (lowered_take l k g) ∙ ap (cut a.parts) (lowered_drop l k g) in
    let i : float_head l ≡ cut a.parts (drop k l) = a.head l refl refl in
    rw (h, i, ending_plain (drop k l) a.ending, ending_stub (drop k l) a.ending)
