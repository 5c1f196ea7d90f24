-- A choice that came out otherwise than its first arm: the test failed.
-- For taking answers by cases apart.
use mathlib.Core.Path.{◌≡◌, refl}
use mathlib.Core.Bool.{Bool, true, false}
use Rattle.paper.specs.Base.{choose}

pub record Past {A : Type 0} (t : Bool) (x y : A) : Type 0 where
  pub test : t ≡ false
  pub rest : x ≡ y

pub past : {A : Type 0} (t : Bool) (b x y : A) → (b ≡ y → ⊥) → choose t b x ≡ y → Past t x y
past true b x y n e = absurd (n e)
past false b x y n e = record { test = refl; rest = e }
