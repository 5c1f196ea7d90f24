-- Scope rules: the pool, expressions and hypotheses of a frame.
-- Each variable ends a fragment; what follows the last is the rump. Hypotheses go by offset.
use Rattle.std.specs.Prelude.{◌≡◌, refl, List, [], ◌∷◌, ◌++◌, ℕ, ◌+◌, length}
use Rattle.paper.specs.Base.{choose, codes, sameb, gather}
use Rattle.paper.specs.State.{Symbol, con, var, Formula, Hyp, float, essential}
use Rattle.paper.specs.Variables.{member, index}

-- ---- Constants after the typecode go into one pool, the last byte of each with 128 added
unfoldable pub raised : List ℕ → List ℕ
raised [] = []
raised (b ∷ []) = (b + 128) ∷ []
raised (b ∷ c ∷ l) = b ∷ raised (c ∷ l)

abbrev pub constant_in : Symbol → List ℕ
constant_in (con n) = raised n
constant_in (var n) = []

unfoldable pub pool_of : Formula → List ℕ
pool_of f = gather constant_in f.body

-- ---- Each variable ends a fragment; what follows the last is the rump. Places are in the pool
pub record Fragment : Type 0 where
  pub from : ℕ
  pub to : ℕ
  pub variable : ℕ

pub record Expression : Type 0 where
  pub typecode : List ℕ
  pub fragments : List Fragment
  pub from : ℕ
  pub to : ℕ

abbrev pub fragment_at : List (List ℕ) → Symbol → ℕ → ℕ → List Fragment
fragment_at l (con n) a b = []
fragment_at l (var n) a b = record { from = a; to = b; variable = index l n } ∷ []

-- after a symbol: where the fragment in hand starts, and the place reached, having started at a and reached b
abbrev pub begun : Symbol → ℕ → ℕ → ℕ
begun (con n) a b = a
begun (var n) a b = b

abbrev pub reached : Symbol → ℕ → ℕ
reached (con n) b = b + length n
reached (var n) b = b

unfoldable pub fragments : List (List ℕ) → List Symbol → ℕ → ℕ → List Fragment
fragments l [] a b = []
fragments l (x ∷ m) a b = fragment_at l x a b ++ fragments l m (begun x a b) (reached x b)

-- `( y -> x )`, where x is variable 0 and y is variable 1: the pool is `(->)`, its first byte ends the first fragment
pub fragments_shown : fragments (codes "x" ∷ codes "y" ∷ []) (con (codes "(") ∷ var (codes "y") ∷ con (codes "->") ∷ var (codes "x") ∷ con (codes ")") ∷ []) 0 0 ≡ record { from = 0; to = 1; variable = 1 } ∷ record { from = 1; to = 3; variable = 0 } ∷ []
unfolding fragments index sameb
fragments_shown = refl

-- where the rump starts: after the last variable
unfoldable pub rump : List Symbol → ℕ → ℕ → ℕ
rump [] a b = a
rump (x ∷ m) a b = rump m (begun x a b) (reached x b)

-- a formula whose constants stand in the pool from a on, its variables numbered by their place in l
unfoldable pub expression : List (List ℕ) → Formula → ℕ → Expression
expression l f a =
    record {
      typecode = f.typecode;
      fragments = fragments l f.body a a;
      from = rump f.body a a;
      to = a + length (pool_of f);
    }

-- ---- Hypotheses are those `$e` and the active `$f` of each mandatory variable, by offset
pub data Hypothesis : Type 0 where
  of_float : ℕ → ℕ → List ℕ → Hypothesis
  of_essential : ℕ → Expression → Hypothesis

-- `m` are the mandatory variables; the pool is reached up to a
abbrev pub hypothesis : List (List ℕ) → Hyp → ℕ → List Hypothesis
hypothesis m (float o e v c) a = choose (member v m) (of_float o (index m v) c ∷ []) []
hypothesis m (essential o e f) a = of_essential o (expression m f a) ∷ []

abbrev pub pooled : Hyp → List ℕ
pooled (float o e v c) = []
pooled (essential o e f) = pool_of f

unfoldable pub hypotheses : List (List ℕ) → List Hyp → ℕ → List Hypothesis
hypotheses m [] a = []
hypotheses m (h ∷ l) a = hypothesis m h a ++ hypotheses m l (a + length (pooled h))
