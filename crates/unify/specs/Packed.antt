-- Words for formulas: each name by its atom, an entry for each formula of the stack, the bottom first.
-- `a` gives the atom of a name; a symbol stands where the words bind what the substitution binds.
use Rattle.std.specs.Prelude.{◌≡◌, true, false, List, map, ℕ, ◌<◌, eqb, drop}
use Rattle.paper.specs.Base.{gather}
use Rattle.paper.specs.State.{Symbol, con, var, Formula}
use Rattle.paper.specs.Substitution.{same_symbol, Binding, bound}
use Rattle.unify.specs.Entries.{flag, plain, entry_of}
use Rattle.unify.specs.Bound.{start_of, constant_word}

unfoldable pub symbol_word : (List ℕ → ℕ) → Symbol → ℕ
symbol_word a (con n) = a n
symbol_word a (var n) = a n

unfoldable pub body_words : (List ℕ → ℕ) → List Symbol → List ℕ
body_words a x = map (symbol_word a) x

unfoldable pub formula_words : (List ℕ → ℕ) → Formula → List ℕ
formula_words a f = entry_of (a f.typecode) (body_words a f.body)

-- the stack
unfoldable pub packed : (List ℕ → ℕ) → List Formula → List ℕ
packed a l = gather (formula_words a) l

-- atoms are below the flag, and among the symbols that are fine they tell which are the same
pub record AtomsTell (a : List ℕ → ℕ) (fine : Symbol → Type 0) : Type 0 where
  pub low : (n : List ℕ) → a n < flag
  pub same : (x y : Symbol) → fine x → fine y → same_symbol x y ≡ eqb (symbol_word a x) (symbol_word a y)

-- by the words w and the stack l, a symbol stands for what the substitution b puts for it
abbrev pub stands : (List ℕ → ℕ) → List ℕ → ℕ → List ℕ → List Binding → Symbol → Type 0
stands a w n l b (con m) = constant_word w n (a m) ≡ true
stands a w n l b (var m) =
    (constant_word w n (a m) ≡ false) × (plain (drop (start_of w n (a m)) l) ≡ body_words a (bound b m))

-- the words bind the variable of a binding as the binding does
abbrev pub binding_stands : (List ℕ → ℕ) → List ℕ → ℕ → List ℕ → Binding → Type 0
binding_stands a w n l x =
    (constant_word w n (a x.name) ≡ false)
    × (plain (drop (start_of w n (a x.name)) l) ≡ body_words a x.body)
