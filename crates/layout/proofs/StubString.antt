-- A stub string at the front of some bytes: where it stops, and what is left after it.
-- For the function that passes over one.
use mathlib.Core.Path.{◌≡◌, sym, ap, ◌∙◌}
use mathlib.Core.Bool.{true, false}
use mathlib.Core.List.{List, [], ◌∷◌}
use Prim.Native.Nat.{ℕ, ◌+◌, ◌-◌, ◌*◌}
use native.Mathlib.Omega.{arith}
use lib.Dec.{ltb}
use lib.ListN.{length, take, drop}
use lib.Seq.{take-add, drop_at, length-take-le}
use borrow.Author.Tests.{le-ltb}
use Rattle.std.specs.Prelude.{Some, None}
use Rattle.std.proofs.lemmas.Option.{none-some}
use Rattle.paper.specs.Lookup.{u32_at, stub_string}
use Rattle.paper.specs.Layout.{cut, part, counted, unstubbed, a_stub}
use Rattle.paper.proofs.Tests.{split}
use Rattle.stream.specs.Framing.{string_stop}
use Rattle.stream.proofs.Strings.{stops}
use Rattle.layout.specs.Cuts.{left}
use Rattle.layout.proofs.Left.{part_left}

-- it does not stop
pub stub_off : (l : List ℕ) → string_stop l 0 (length l) ≡ None → None ≡ left (a_stub l)
unfolding string_stop a_stub counted part
stub_off l z =
    split (ltb (length l) 4)
    (λ a. sym (rw a))
    (λ a.
    split (ltb (length l) (4 + u32_at l 0))
    (λ b. let m : 4 + 1 * u32_at l 0 ≡ 4 + u32_at l 0 = omega arith in sym (rw (a, m, b)))
    (λ b. absurd (none-some (4 + u32_at l 0) (sym (rw (a, b) at z)))))

module _ (l : List ℕ) {q : ℕ} (stop : string_stop l 0 (length l) ≡ Some q) where
  inner : drop 4 (take q l) ≡ take (q - 4) (drop 4 l)
  inner =
      let s = stops l 0 (length l) q stop in
      let e : q ≡ 4 + (q - 4) = omega (arith, s.start) in
      let k : length (take 4 l) ≡ 4 = length-take-le 4 l (omega (arith, s.start, s.within)) in
      ap (λ n. drop 4 (take n l)) e ∙ ap (drop 4) (take-add 4 (q - 4) l) ∙ drop_at (take 4 l) (take (q - 4) (drop 4 l)) 4 k

  test : a_stub l ≡ unstubbed (cut (take q l ∷ []) (drop q l))
  unfolding a_stub counted part
  test =
      let s = stops l 0 (length l) q stop in
      let e : 4 + 1 * u32_at l 0 ≡ q = omega (arith, s.is) in
      rw (le-ltb (length l) 4 (omega (arith, s.start, s.within)), e, le-ltb (length l) q s.within)

  pub stub_not : stub_string (take (q - 4) (drop 4 l)) ≡ false → None ≡ left (a_stub l)
  stub_not t = sym (ap left test ∙ rw (inner, t))

  pub stub_left : stub_string (take (q - 4) (drop 4 l)) ≡ true → left (part q l) ≡ left (a_stub l)
  stub_left t = part_left q l (stops l 0 (length l) q stop).within ∙ sym (ap left test ∙ rw (inner, t))
