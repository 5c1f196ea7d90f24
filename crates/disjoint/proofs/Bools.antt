-- Tests joined by `and` and `or`.
-- Nothing here is about Metamath.
use mathlib.Core.Path.{◌≡◌, refl, sym}
use mathlib.Core.Bool.{Bool, true, false}
use Rattle.paper.specs.Base.{and, or}
use Rattle.paper.proofs.Tests.{clash}

pub or_true : (b : Bool) → or b true ≡ true
or_true true = refl
or_true false = refl

pub or_false : (b : Bool) → or b false ≡ b
or_false true = refl
or_false false = refl

pub or_right : (a b : Bool) → b ≡ true → or a b ≡ true
or_right true b e = refl
or_right false b e = e

pub or_assoc : (a b c : Bool) → or (or a b) c ≡ or a (or b c)
or_assoc true b c = refl
or_assoc false b c = refl

pub and_false : (b : Bool) → and b false ≡ false
and_false true = refl
and_false false = refl

pub and_or : (a b c : Bool) → or (and a b) (and a c) ≡ and a (or b c)
and_or true b c = refl
and_or false b c = refl

pub and_left : (a b : Bool) → and a b ≡ true → a ≡ true
and_left true b e = refl
and_left false b e = e

pub and_right : (a b : Bool) → and a b ≡ true → b ≡ true
and_right true b e = e
and_right false b e = absurd (clash (sym e))
