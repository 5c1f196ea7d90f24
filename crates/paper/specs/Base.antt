-- Words that all the definitions share: choice by a test, bytes compared, lists searched.
-- No section of document 01: nothing here is about Metamath.
use Rattle.std.specs.Prelude.{Bool, true, false, List, [], ◌∷◌, ◌++◌, ℕ, zero, suc, eqb, leb}
use Rattle.std.proofs.Math.Option.{Option, none, some}
use Prim.Native.Char.{code}
use Prim.Native.String.{String}
use Prim.Native.String as S

abbrev pub choose : {A : Type 0} → Bool → A → A → A
choose true a b = a
choose false a b = b

abbrev pub and : Bool → Bool → Bool
and true b = b
and false b = false

abbrev pub or : Bool → Bool → Bool
or true b = true
or false b = b

abbrev pub not : Bool → Bool
not true = false
not false = true

-- the bytes of a plain text, for closed examples
abbrev pub codes : String → List ℕ
codes S.[] = []
codes (S.◌∷◌ c s) = code c ∷ codes s

-- from lo to hi, both included
abbrev pub within : ℕ → ℕ → ℕ → Bool
within lo hi n = and (leb lo n) (leb n hi)

-- the same bytes
unfoldable pub sameb : List ℕ → List ℕ → Bool
sameb [] [] = true
sameb [] (y ∷ m) = false
sameb (x ∷ l) [] = false
sameb (x ∷ l) (y ∷ m) = let r = sameb l m in choose (eqb x y) r false

unfoldable pub all : {A : Type 0} → (A → Bool) → List A → Bool
all p [] = true
all p (x ∷ l) = let r = all p l in choose (p x) r false

unfoldable pub any : {A : Type 0} → (A → Bool) → List A → Bool
any p [] = false
any p (x ∷ l) = let r = any p l in choose (p x) true r

-- those that pass
unfoldable pub keep : {A : Type 0} → (A → Bool) → List A → List A
keep p [] = []
keep p (x ∷ l) = let r = keep p l in choose (p x) (x ∷ r) r

-- the first that passes
unfoldable pub find : {A : Type 0} → (A → Bool) → List A → Option A
find p [] = none
find p (x ∷ l) = let r = find p l in choose (p x) (some x) r

abbrev pub or_else : {A : Type 0} → Option A → Option A → Option A
or_else (some x) o = some x
or_else none o = o

-- the last that passes
unfoldable pub latest : {A : Type 0} → (A → Bool) → List A → Option A
latest p [] = none
latest p (x ∷ l) = or_else (latest p l) (choose (p x) (some x) none)

-- what each gives, one after the other
unfoldable pub gather : {A B : Type 0} → (A → List B) → List A → List B
gather f [] = []
gather f (x ∷ l) = f x ++ gather f l

-- f 0, f 1, up to n of them
unfoldable pub table : {A : Type 0} → (ℕ → A) → ℕ → List A
table f zero = []
table f (suc n) = table f n ++ (f n ∷ [])
