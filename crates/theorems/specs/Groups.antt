-- A group of a text, the text with that group blanked, and what its labels must not meet.
-- `p` is the offset of a `${`, `q` that of its own `$}`.
use Rattle.std.specs.Prelude.{◌≡◌, Bool, true, false, List, [], ◌∷◌, ℕ, ◌+◌, ◌-◌, eqb, length, replicate}
use Rattle.std.proofs.Math.Option.{Option, none, some}
use Rattle.paper.specs.Base.{choose, not, within, any, keep, gather}
use Rattle.paper.specs.Tokens.{Token, tokens}
use Rattle.paper.specs.Statements.{Kind, $c, $v, $d, $f, $e, $a, $p, Statement, Item, opens, closes, states, closers, ends}
use Rattle.paper.specs.Reader.{given, items}
use Rattle.paper.specs.Names.{named, labels}
use Rattle.paper.specs.Answer.{laid}

abbrev pub first : List ℕ → Option ℕ
first [] = none
first (q ∷ l) = some q

-- the `$}` that closes the `${` at p
unfoldable pub closer : List Item → ℕ → Option ℕ
closer [] p = none
closer (opens o ∷ i) p = let r = closer i p in choose (eqb o p) (first (closers i [])) r
closer (closes o ∷ i) p = closer i p
closer (states s ∷ i) p = closer i p

-- p and q are the offsets of a `${` and of its own `$}` as the reader reads them
pub record Group (t : List ℕ) (p q : ℕ) : Type 0 where
  pub read : List Item
  pub reads : items (tokens t) (length t) ≡ given read
  pub own : closer read p ≡ some q

-- the statements of the text, each with its end
abbrev pub statements : {t : List ℕ} {p q : ℕ} → Group t p q → List Statement
statements g = ends g.read []

-- the text with bytes p to q + 1 overwritten by 32
abbrev pub span : ℕ → ℕ → ℕ
span p q = (q + 2) - p

unfoldable pub blanked : List ℕ → ℕ → ℕ → List ℕ
blanked t p q = laid t p (replicate (span p q) 32)

-- ---- statements inside the group, and the others
abbrev pub inside : ℕ → ℕ → Statement → Bool
inside p q s = within p q s.at

abbrev pub outside : ℕ → ℕ → Statement → Bool
outside p q s = not (within p q s.at)

-- the math tokens of a `$c` or `$v`
abbrev pub symbols_by : Kind → List Token → List Token
symbols_by $c m = m
symbols_by $v m = m
symbols_by $d m = []
symbols_by $f m = []
symbols_by $e m = []
symbols_by $a m = []
symbols_by $p m = []

abbrev pub symbols : Statement → List Token
symbols s = symbols_by s.kind s.math

-- the name n is a label of one of the statements; is a math token of a `$c` or `$v` among them
abbrev pub borne : List ℕ → List Statement → Bool
borne n l = any (named n) (labels l)

abbrev pub declared_in : List ℕ → List Statement → Bool
declared_in n l = any (named n) (gather symbols l)

-- no label borne by a statement inside is borne by one outside
abbrev pub LabelsApart : List Statement → ℕ → ℕ → Type 0
LabelsApart l p q = (n : List ℕ) → borne n (keep (inside p q) l) ≡ true → borne n (keep (outside p q) l) ≡ false

-- or is a math token of a `$c` or `$v` outside
abbrev pub SymbolsApart : List Statement → ℕ → ℕ → Type 0
SymbolsApart l p q = (n : List ℕ) → borne n (keep (inside p q) l) ≡ true → declared_in n (keep (outside p q) l) ≡ false

pub record Apart (l : List Statement) (p q : ℕ) : Type 0 where
  pub labels_apart : LabelsApart l p q
  pub symbols_apart : SymbolsApart l p q
