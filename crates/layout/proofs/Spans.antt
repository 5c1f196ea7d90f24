-- The bytes of a list from a place up to another: its numbers, its length, and that it is a part of the list.
-- For the record that stands at a place of a stream.
use mathlib.Core.Path.{◌≡◌, ap, ◌∙◌}
use mathlib.Core.List.{List}
use Prim.Native.Nat.{ℕ, ◌+◌, ◌-◌, ◌<◌, ◌≤◌}
use native.Mathlib.Omega.{arith}
use lib.ListN.{length, get_or, take, drop, length-drop}
use lib.Seq.{drop-drop, get_or-drop, get_or-take, length-take-le, take-add, drop_at}
use Rattle.paper.specs.Lookup.{u16_at, u32_at}

pub record Within (l : List ℕ) (p e : ℕ) : Type 0 where
  pub order : p ≤ e
  pub inside : e ≤ length l

unfoldable pub span : List ℕ → ℕ → ℕ → List ℕ
span l p e = drop p (take e l)

module _ (l : List ℕ) (p e : ℕ) where
  pub span_drop : (k : ℕ) → drop k (span l p e) ≡ span l (p + k) e
  unfolding span
  span_drop k = drop-drop k p (take e l)

  pub span_get : (i : ℕ) → p + i < e → get_or (span l p e) i 0 ≡ get_or l (p + i) 0
  unfolding span
  span_get i h = get_or-drop p (take e l) i 0 ∙ get_or-take e l (p + i) 0 h

  pub span_u32 : p + 4 ≤ e → u32_at (span l p e) 0 ≡ u32_at l p
  unfolding u32_at u16_at
  span_u32 h =
      let z : p + 0 ≡ p = omega arith in
      let t : p + 3 ≡ (p + 2) + 1 = omega arith in
      rw (span_get 0 (omega arith), span_get 1 (omega arith), span_get 2 (omega arith), span_get 3 (omega arith), z, t)

pub span_length : {l : List ℕ} {p e : ℕ} → Within l p e → length (span l p e) ≡ e - p
unfolding span
span_length {l} {p} {e} w = length-drop p (take e l) ∙ ap (λ n. n - p) (length-take-le e l w.inside)

-- the same bytes, as a part of the list
pub span_part : {l : List ℕ} {p e : ℕ} → Within l p e → span l p e ≡ take (e - p) (drop p l)
unfolding span
span_part {l} {p} {e} w =
    let q : e ≡ p + (e - p) = omega (arith, w.order) in
    ap (λ n. drop p (take n l)) q
    ∙ ap (drop p) (take-add p (e - p) l)
    ∙ drop_at (take p l) (take (e - p) (drop p l)) p (length-take-le p l (omega (arith, w.order, w.inside)))
