-- Words moved down on the stack.
-- Assumes nothing.
use mathlib.Core.Path.{refl, ap, ◌∙◌}
use mathlib.Core.List.{List, ◌++◌}
use Prim.Native.Nat.{ℕ, ◌+◌, ◌-◌, ◌≤◌}
use native.Mathlib.Omega.{arith}
use lib.ListN.{length, take, drop, length-drop}
use Rattle.std.specs.List.{copy_within}
use Rattle.std.proofs.lemmas.List.Edits.{length-paste, take-paste}
use Rattle.std.proofs.lemmas.Slice.{between_is}
use Rattle.unify.specs.Pushes.{Moved}

pub moved_within :
    (l : List ℕ) (base from to : ℕ) → base ≤ from → from ≤ to → to ≤ length l
    → Moved l (copy_within l from to base) base from to (base + (to - from))
moved_within l base from to h i j =
    let k : to - from ≤ length (drop from l) = omega (arith, length-drop from l) in
    record {
      len = length-paste l base (drop from l) (to - from) (omega arith) k;
      place = refl;
      front =
          take-paste l base (drop from l) (to - from) (omega arith) k
          ∙ ap (λ (x : List ℕ). take base l ++ x) (between_is l from to);
    }
