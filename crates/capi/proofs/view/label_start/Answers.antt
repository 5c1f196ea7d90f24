use mathlib.Core.Path.{ap, ◌∙◌}
use Prim.Native.Nat.{ℕ, ◌+◌}
use native.Mathlib.Omega.{arith}
use Rattle.std.specs.Prelude.{unwrap_or}
use Rattle.stream.proofs.Framing.{place_few, place_or}
use Rattle.capi.proofs.view.label_start.Goals as goal

pub overflow_add-result : goal.overflow_add-result
overflow_add-result c =
    omega (arith, place_few c.in-Some.k, c.unwrap_or.ensures ∙ ap (λ o. unwrap_or o 0) c.label_place.ensures.1 ∙ place_or c.in-Some.k)

pub returns-in-Some : goal.returns-in-Some
returns-in-Some c =
    rw c.in-Some.is
    (ap (λ (n : ℕ). n + 4) (c.unwrap_or.ensures ∙ ap (λ o. unwrap_or o 0) c.label_place.ensures.1 ∙ place_or c.in-Some.k))
