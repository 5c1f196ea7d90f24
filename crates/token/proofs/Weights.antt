-- The pass that counts by weights: while they add up to less than 2^32 no bad byte was met, and the count is that of the tokens.
-- Assumes nothing.
use mathlib.Core.Path.{◌≡◌, refl, ◌∙◌}
use mathlib.Core.List.{List}
use Prim.Native.Nat.{ℕ, ◌+◌, ◌*◌, ◌<◌, ◌≤◌}
use native.Mathlib.Omega.{arith}
use lib.Dec.{eqb, ltb}
use lib.ListN.{length, get_or}
use borrow.Author.Tests.{eqb-true}
use Rattle.std.specs.Int.{from_bool}
use Rattle.paper.proofs.Tests.{split}
use Rattle.token.specs.Class.{class}
use Rattle.token.specs.Count.{weight, tally_of}
use Rattle.token.proofs.Counts.{Tallied, bit_le, tally_step, tally_end}

-- ---- the pass at byte i: n tokens and the weight s before it, and w for the byte before it
pub record Weighing (t : List ℕ) (n s w i : ℕ) : Type 0 where
  pub few : n ≤ i
  pub small : s ≤ 4294967296 * i
  pub good : s < 4294967296 → Tallied t n 0 w i

weight_most : (c : ℕ) → weight c ≤ 4294967296
weight_most c =
    split (eqb c 1) (λ e. rw e (omega arith)) (λ e. split (eqb c 0) (λ f. rw (e, f) (omega arith)) (λ f. rw (e, f) (omega arith)))

weight_good : (c : ℕ) → weight c < 4294967296 → (weight c ≡ from_bool (eqb c 1)) × (0 ≡ from_bool (eqb c 0))
weight_good c h =
    split (eqb c 1)
    (λ e. let q : c ≡ 1 = eqb-true c 1 e in rw q (omega arith, omega arith))
    (λ e. split (eqb c 0)
    (λ f. let z : 4294967296 < 4294967296 = rw (e, f) at h in absurd (omega (arith, z)))
    (λ f. rw (e, f) (omega arith, omega arith)))

pub weigh_step : {t : List ℕ} {n s w i m p : ℕ} → Weighing t n s w i → i < length t → m ≡ weight (class (get_or t i 0)) → p ≡ from_bool (ltb m w) → Weighing t (n + p) (s + m) m (i + 1)
weigh_step {t} {n} {s} {w} {i} {m} {p} h l em ep =
    let c = class (get_or t i 0) in
    record {
      few = omega (arith, h.few, ep, bit_le (ltb m w));
      small = omega (arith, h.small, em, weight_most c);
      good = λ g.
          let y = weight_good c (omega (arith, em)) in
          let z : Tallied t (n + p) (0 + 0) m (i + 1) = tally_step (h.good (omega arith)) l refl (em ∙ y.0) ep y.1 in
          z;
    }

pub weigh_end : {t : List ℕ} {n s w i : ℕ} → Weighing t n s w i → length t ≤ i → s < 4294967296 → record { tokens = n; bads = 0 } ≡ tally_of t
weigh_end h l g = tally_end (h.good g) l
