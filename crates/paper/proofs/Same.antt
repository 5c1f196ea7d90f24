-- `==` of two slices of bytes is the definitions' comparison, byte for byte.
-- For every crate that compares names; nothing here is about Metamath.
use mathlib.Core.Path.{◌≡◌, refl}
use mathlib.Core.Bool.{Bool, true, false, ◌&&◌}
use mathlib.Core.List.{List, [], ◌∷◌}
use Prim.Native.Nat.{ℕ}
use lib.Dec.{eqb}
use Rattle.std.specs.Prelude.{bytes_eq}
use Rattle.paper.specs.Base.{choose, sameb}

both : (s t u : Bool) → t ≡ u → (s && t) ≡ choose s u false
both true t u e = e
both false t u e = refl

pub bytes_same : (a b : List ℕ) → bytes_eq a b ≡ sameb a b
unfolding sameb
bytes_same [] [] = refl
bytes_same [] (y ∷ b) = refl
bytes_same (x ∷ a) [] = refl
bytes_same (x ∷ a) (y ∷ b) = both (eqb x y) (bytes_eq a b) (sameb a b) (bytes_same a b)
