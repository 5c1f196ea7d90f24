-- The framing of a record, as the code finds it: by its label's place, and by where its strings stop.
-- For the walk over a frame stream.
use mathlib.Core.Path.{◌≡◌, sym, ◌∙◌}
use mathlib.Core.Bool.{true, false}
use mathlib.Core.List.{List}
use Prim.Native.Nat.{ℕ, ◌+◌, ◌<◌, ◌≤◌}
use native.Mathlib.Omega.{arith}
use lib.Dec.{eqb, ltb}
use lib.ListN.{length}
use borrow.Author.Tests.{lt-ltb, le-ltb, eqb-true}
use Rattle.std.specs.Prelude.{Some, None, unwrap_or}
use Rattle.std.proofs.lemmas.Option.{none-some}
use Rattle.paper.specs.Base.{choose, not, or}
use Rattle.paper.specs.Lookup.{u16_at, u32_at, label_place, stub_if}
use Rattle.paper.proofs.Tests.{split}
use Rattle.stream.specs.Framing.{place_of, string_stop, label_from, label_by, label_in, framing}
use Rattle.stream.proofs.Past.{past}
use Rattle.stream.proofs.Strings.{stops, no_string, a_string}

-- ---- the label
module _ (l : List ℕ) (at k e : ℕ) where
  pub no_place : place_of k ≡ None → None ≡ label_in l at k e
  unfolding label_in label_by
  no_place z =
      split (eqb (label_place k) 0) (λ q. sym (rw q)) (λ q. absurd (none-some (label_place k) (sym (rw q at z))))

  module _ {p : ℕ} (place : place_of k ≡ Some p) where
    placed : label_from l k e (at + p) ≡ label_in l at k e
    unfolding label_in label_by
    placed =
        let a = past (eqb (label_place k) 0) _ _ _ (none-some p) place in
        let s : label_place k ≡ p = cc in
        sym (rw (a.test, s))

    pub no_label : string_stop l (at + p) e ≡ None → None ≡ label_in l at k e
    unfolding label_from
    no_label z = sym (no_string l (at + p) e None _ z) ∙ placed

    module _ {q : ℕ} (stop : string_stop l (at + p) e ≡ Some q) where
      there : choose (not (stub_if k l q e)) None (Some (record { kind = k; label = (at + p) + 4; stop = q; after = e })) ≡ label_in l at k e
      unfolding label_from
      there = let s = stops l (at + p) e q stop in rw s.is (sym (a_string l (at + p) e None _ stop) ∙ placed)

      pub no_stub : stub_if k l q e ≡ false → None ≡ label_in l at k e
      no_stub t = sym (rw t) ∙ there

      pub well : stub_if k l q e ≡ true → Some (record { kind = k; label = (at + p) + 4; stop = q; after = e }) ≡ label_in l at k e
      well t = sym (rw t) ∙ there

-- a label's place is small; and 0 stands for none, as in the definition
pub place_few : (k : ℕ) → label_place k ≤ 14
place_few k =
    split (or (eqb k 1) (eqb k 4)) (λ a. rw a (omega arith))
    (λ a. split (or (eqb k 2) (eqb k 3)) (λ b. rw (a, b) (omega arith)) (λ b. rw (a, b) (omega arith)))

pub place_below : (k p : ℕ) → place_of k ≡ Some p → p ≤ 14
place_below k p z =
    let a = past (eqb (label_place k) 0) _ _ _ (none-some p) z in
    let s : label_place k ≡ p = cc in
    omega (arith, place_few k)

pub place_or : (k : ℕ) → unwrap_or (place_of k) 0 ≡ label_place k
place_or k = split (eqb (label_place k) 0) (λ q. rw q (sym (eqb-true (label_place k) 0 q))) (λ q. rw q)

-- ---- the record
module _ (l : List ℕ) (at : ℕ) where
  pub no_record : length l < at + 4 → None ≡ framing l at
  unfolding framing
  no_record h = sym (rw (lt-ltb (length l) (at + 4) h))

  pub no_length : string_stop l at (length l) ≡ None → None ≡ framing l at
  unfolding framing string_stop
  no_length z =
      split (ltb (length l) (at + 4)) (λ a. sym (rw a))
      (λ a.
      split (ltb (u32_at l at) 2) (λ b. sym (rw (a, b)))
      (λ b.
      split (ltb (length l) ((at + 4) + u32_at l at)) (λ c. sym (rw (a, b, c)))
      (λ c. absurd (none-some ((at + 4) + u32_at l at) (sym (rw (a, c) at z))))))

  module _ {q : ℕ} (stop : string_stop l at (length l) ≡ Some q) where
    pub too_short : q < at + 6 → None ≡ framing l at
    unfolding framing
    too_short g =
        let s = stops l at (length l) q stop in
        let a : at + 4 ≤ length l = omega (arith, s.start, s.within) in
        sym (rw (le-ltb (length l) (at + 4) a, lt-ltb (u32_at l at) 2 (omega (arith, s.is))))

    pub in_kind : at + 6 ≤ q → (k : ℕ) → k ≡ u16_at l (at + 4) → label_in l at k q ≡ framing l at
    unfolding framing
    in_kind g k e =
        let s = stops l at (length l) q stop in
        let a : at + 4 ≤ length l = omega (arith, s.start, s.within) in
        let b : (at + 4) + u32_at l at ≤ length l = omega (arith, s.is, s.within) in
        rw s.is
        (sym (rw (le-ltb (length l) (at + 4) a, le-ltb (u32_at l at) 2 (omega (arith, s.is)), le-ltb (length l) ((at + 4) + u32_at l at) b, ← e)))
