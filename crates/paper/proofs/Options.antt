-- Options told apart, and what a search that found something says.
-- For every crate; nothing here is about Metamath.
use mathlib.Core.Path.{◌≡◌, ap}
use mathlib.Core.Option.{none, some}
use Prim.Native.Nat.{ℕ}
use native.Mathlib.Omega.{arith}
use Rattle.std.specs.Prelude.{Result, Ok, Err, IsErrAnd}

pub none_some : {A : Type 0} {x : A} → none ≡ some x → ⊥
none_some e = let y : ◌≡◌ {A = ℕ} 0 1 = cc in omega arith

pub some_same : {A : Type 0} {x y : A} → some x ≡ some y → x ≡ y
some_same e = cc

-- what a `?` hands on
pub handed_on : {T E : Type 0} {x : E} (r : Result T E) → IsErrAnd r (λ y. y ≡ x) → r ≡ Err x
handed_on (Ok y) h = absurd h
handed_on (Err y) h = ap Err h
