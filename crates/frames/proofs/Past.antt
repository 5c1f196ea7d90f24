-- A frame that is only measured: past the buffer nothing is stored, so its parts may be gone over without the pool.
-- For all that the words stand for.
use mathlib.Core.Path.{◌≡◌, refl, ◌∙◌}
use mathlib.Core.List.{List}
use Prim.Native.Nat.{ℕ, ◌+◌, ◌-◌, ◌<◌, ◌≤◌}
use native.Mathlib.Omega.{arith}
use lib.ListN.{length}
use Rattle.paper.specs.Records.{u32}
use Rattle.stream.specs.Wrote.{Wrote}
use Rattle.stream.proofs.Wrote.{wrote_skip}
use Rattle.stream.proofs.Records.{length_u32}
use Rattle.forms.specs.Words.{stack_constants, constants_of}
use Rattle.forms.specs.Puts.{PutNames, PutPool}
use Rattle.forms.proofs.Constants.{sizes_are}
use Rattle.forms.proofs.Essentials.{stack_sizes, pool_put}
use Rattle.disjoint.specs.Written.{PutsDisjoint}
use Rattle.frames.specs.Front.{Fronts}
use Rattle.frames.specs.InHand.{SomeInHand, SomeWhole, PutMiddle, PoolEnd, PutFrame}
use Rattle.frames.proofs.Parts.{hand_stack, hand_row, hand_before, hand_small, whole_hand, head_put, frame_put}

-- a number
number_past : (b : List ℕ) (at n : ℕ) → length b ≤ at → Wrote b b at (at + 4) (u32 n)
number_past b at n h = wrote_skip b at (at + 4) (u32 n) (omega (arith, length_u32 n)) (omega arith)

-- what stands past the buffer may stand further on
middle_moved :
    {t w b b' : List ℕ} {n row es v k at r : ℕ} (z : ℕ) → length b < at → PutMiddle t w n row es v k b b' at r
    → PutMiddle t w n row es v k b b' (at + z) (r + z)
middle_moved z h x =
    record {
      few = omega (arith, x.few);
      sim = λ l hs vs m y.
          let a = x.sim l hs vs m y in
          record { place = omega (arith, a.place); len = a.len; bytes = λ g. absurd (omega (arith, a.place)) };
    }

-- the pool of z bytes
pool_past :
    {t w b : List ℕ} {n row es v k at z : ℕ} → SomeInHand t w n row es v k → length b ≤ at → PoolEnd w n es row z
    → PutPool t w n es row b b at (at + 4 + z)
pool_past {t} {w} {b} {n} {row} {es} {at = at} {z} c h e =
    let s = e.stack in
    let p : s ≡ length (stack_constants t w n es) = e.counted.is ∙ stack_sizes (hand_stack c) in
    let q : z ≡ s + length (constants_of t w n row) = omega (arith, e.pooled.is, sizes_are (hand_row c)) in
    pool_put (hand_stack c) (hand_row c) (hand_before c)
    (record {
      few = λ o k. omega (arith, e.counted.few o k);
      wrote = wrote_skip b (at + 4) (at + 4 + s) (stack_constants t w n es) (omega arith) (omega arith);
    })
    (omega (arith, e.pooled.few), wrote_skip b (at + 4 + s) (at + 4 + z) (constants_of t w n row) (omega arith) (omega arith))
    (refl, number_past b at (at + 4 + z - (at + 4)) h)

-- how long it may be
pub pool_few : {t w : List ℕ} {n row es v k z : ℕ} → SomeInHand t w n row es v k → PoolEnd w n es row z → z ≤ 281474993487872
pool_few c e = omega (arith, e.pooled.few, e.counted.few _ (hand_before c), (hand_row c).tokens, hand_small c)

pub frame_measured :
    {t w u b b₁ b₂ b₃ b₄ : List ℕ} {n row es ds v k at p q r z e : ℕ} → SomeWhole t w n row es ds v k → length b ≤ at
    → Fronts t w n row v k b b₁ (at + 4) p → PutNames t w n v b₁ b₂ p q → PutMiddle t w n row es v k b₂ b₃ (q + 4) r → PoolEnd w n es row z
    → PutsDisjoint w u b₃ b₄ n (r + z) e v k ds → length b₂ ≡ length b → length b₄ ≡ length b → PutFrame t w u n row es ds v k b b₄ at e
frame_measured {b₄ = b₄} {at = at} {z = z} {e = e} c h f g m o d l₂ l₄ =
    let x = whole_hand c in
    let y = x.holds in
    let s = f.sim x.l y.assertion in
    let i = g.sim x.l x.vs y.hyps.ready y.most in
    frame_put c (head_put x f g (pool_past x (omega (arith, s.place, i.place, l₂)) o)) (middle_moved z (omega (arith, s.place, i.place, l₂)) m) d
    (refl, number_past b₄ at (e - (at + 4)) (omega (arith, l₄)))
