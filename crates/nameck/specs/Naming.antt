-- How far naming has come: which labels and math tokens are atoms, and which owners and declarations are noted.
-- `t` is the text, `w` the words, `n` is N + 1.
use Rattle.std.specs.Prelude.{◌≡◌, true, false, List, [], ◌∷◌, ◌++◌, map, ℕ, ◌+◌, ◌-◌, ◌*◌, ◌<◌, ◌≤◌, eqb, length, get_or, take, drop, Bool, Some, None}
use Rattle.std.specs.Prelude as code
use Rattle.paper.specs.Base.{choose, find, gather}
use Rattle.paper.specs.Tokens.{Token}
use Rattle.paper.specs.Statements.{labelled, Statement, none_end}
use Rattle.paper.specs.Names.{named, bearer, labels, Declared, declares, declared, declares_name}
use Rattle.paper.specs.Variables.{member, sights}
use Rattle.paper.specs.Checks.{token}
use Rattle.area.specs.Cells.{statement_cell, symbol_cell, math_cell, word}
use Rattle.reader.specs.Rows.{stmt, before, label_of, Stands, Shape, Rows}
use Rattle.facts.specs.Facts.{Facts}
use Rattle.nameck.specs.Atoms.{bytes_of, names_in, atoms, atom_of}
use Rattle.nameck.specs.Named.{owner_word, global_word, Named, Fresh}
use Rattle.nameck.specs.Links.{hash, Linked}
use Rattle.token.specs.Words as words
use Rattle.nameck.specs.declared.naming.Hashed.{Hashed}
use Rattle.nameck.specs.declared.naming.Sort.{Sort}
use Rattle.nameck.specs.declared.naming.Sort.TheVariants.{Constant, Variable}
use Rattle.nameck.specs.Table.{name_at, names_of, Spans}

-- ---- what is done: of the statements, k labels and p math tokens; by that the names, bearers and declarations
pub record Done : Type 0 where
  pub of : List Statement
  pub labels : ℕ
  pub maths : ℕ
  pub names : List (List ℕ)
  pub bearers : List Token
  pub declared : List Declared

-- the statements before the s-th
abbrev pub before_statement : List Statement → ℕ → Done
before_statement l s =
    record {
      of = l;
      labels = s;
      maths = before l s;
      names = gather names_in (take s l);
      bearers = labels (take s l);
      declared = declared (take s l);
    }

-- then the label of the next, if it bears one
abbrev pub with_label : Done → Statement → Done
with_label x s =
    record {
      of = x.of;
      labels = x.labels + 1;
      maths = x.maths;
      names = x.names ++ map bytes_of (bearer s);
      bearers = x.bearers ++ bearer s;
      declared = x.declared;
    }

-- what math tokens declare, if their statement is an outermost `$c` or `$v`
abbrev pub is_constant : Sort → Bool
is_constant Constant = true
is_constant Variable = false

abbrev pub declared_as : code.Option Sort → List Token → List Declared
declared_as None m = []
declared_as (Some k) m = map (declares (is_constant k)) m

-- then some math tokens
abbrev pub with_math : Done → code.Option Sort → List Token → Done
with_math x k m =
    record {
      of = x.of;
      labels = x.labels;
      maths = x.maths + length m;
      names = x.names ++ map bytes_of m;
      bearers = x.bearers;
      declared = x.declared ++ declared_as k m;
    }

-- ---- what the words say of it
-- word c of the symbols: f of the name for each name; f is 0 for any other name
pub record Column (w : List ℕ) (n c : ℕ) (l : List (List ℕ)) (f : List ℕ → ℕ) : Type 0 where
  pub holds : (a : ℕ) → a < length l → word w (symbol_cell n a c) ≡ f (get_or l a [])
  pub unseen : (y : List ℕ) → member y l ≡ false → f y ≡ 0

abbrev pub owner_by : List Token → List ℕ → ℕ
owner_by b y = owner_word (find (named y) b)

abbrev pub global_by : List Declared → List ℕ → ℕ
global_by d y = global_word (find (declares_name y) d)

-- what holds of the statements, whatever the words are
pub record Text (t : List ℕ) (n : ℕ) (l : List Statement) : Type 0 where
  pub few : length (atoms l) + length l < n
  pub small : n ≤ 16777217
  pub bears : (s : ℕ) → s < length l → labelled (stmt l s).kind ≡ true → Stands t (label_of (stmt l s))
  pub stands : (s i : ℕ) → s < length l → i < length (stmt l s).math → Stands t (token (stmt l s) i)

-- word 2 of the statements: the atom of the label for the first k, and then its length
pub record Labels (w : List ℕ) (l : List Statement) (k : ℕ) : Type 0 where
  pub done :
      (s : ℕ) → s < k → s < length l → labelled (stmt l s).kind ≡ true
      → word w (statement_cell s 2) ≡ atom_of l (stmt l s).label
  pub left : (s : ℕ) → k ≤ s → s < length l → word w (statement_cell s 2) ≡ length (stmt l s).label

-- the math column: the atom of the token for the first p, and then its offset
pub record Maths (w : List ℕ) (n : ℕ) (l : List Statement) (p : ℕ) : Type 0 where
  pub done :
      (s i : ℕ) → s < length l → i < length (stmt l s).math → before l s + i < p
      → word w (math_cell n (before l s + i)) ≡ atom_of l (token (stmt l s) i).bytes
  pub left :
      (s i : ℕ) → s < length l → i < length (stmt l s).math → p ≤ before l s + i
      → word w (math_cell n (before l s + i)) ≡ (token (stmt l s) i).at

-- the words of m names that naming leaves 0
pub record Blank (w : List ℕ) (n m : ℕ) : Type 0 where
  pub symbols : (a c : ℕ) → a < m → 5 ≤ c → c < 7 → word w (symbol_cell n a c) ≡ 0

-- x is done, with m names
pub record Progress (t w : List ℕ) (n : ℕ) (x : Done) (m : ℕ) : Type 0 where
  pub shape : Shape t w n x.of
  pub text : Text t n x.of
  pub labels : Labels w x.of x.labels
  pub maths : Maths w n x.of x.maths
  pub spans : Spans t w n m
  pub names : names_of t w n m ≡ sights x.names []
  pub linked : Linked w n m (name_at t w n)
  pub owners : Column w n 0 (sights x.names []) (owner_by x.bearers)
  pub globals : Column w n 1 (sights x.names []) (global_by x.declared)
  pub blank : Blank w n m

-- the names b come next
pub record Ahead (x : Done) (b : List (List ℕ)) : Type 0 where
  pub rest : List (List ℕ)
  pub all : x.names ++ (b ++ rest) ≡ gather names_in x.of

-- the token at a place of a part: where it stops, and the hash of its bytes
pub record HashedToken (q : List ℕ) (i : ℕ) (r : Hashed) : Type 0 where
  pub stop : r.stop ≡ i + length (words.word (drop i q))
  pub hash : r.hash ≡ hash (words.word (drop i q))

-- ---- what the steps ask and promise: each for all that may be done so far
-- the math token in a row of the math column; q is the math string of its statement, which starts at `from`
pub record AtToken (t q w : List ℕ) (n from row : ℕ) (k : code.Option Sort) (m : ℕ) (x : Done) (s i : ℕ) : Type 0 where
  pub progress : Progress t w n x m
  pub statement : s < length x.of
  pub inside : i < length (stmt x.of s).math
  pub next : x.maths ≡ before x.of s + i
  pub row_is : row ≡ x.maths
  pub from_is : from ≡ word w (statement_cell s 3)
  pub part : q ≡ take (word w (statement_cell s 4) - from) (drop from t)
  pub ahead : Ahead x ((token (stmt x.of s) i).bytes ∷ [])

pub record SomeToken (t q w : List ℕ) (n from row : ℕ) (k : code.Option Sort) (m : ℕ) : Type 0 where
  pub done : Done
  pub s : ℕ
  pub i : ℕ
  pub holds : AtToken t q w n from row k m done s i

pub record TokenNamed (t q w v : List ℕ) (n from row : ℕ) (k : code.Option Sort) (m r : ℕ) : Type 0 where
  -- the words of the statements are kept
  pub words : (j : ℕ) → j < 4 * n → word v j ≡ word w j
  pub sim :
      (x : Done) (s i : ℕ) → AtToken t q w n from row k m x s i
      → Progress t v n (with_math x k (token (stmt x.of s) i ∷ [])) r

-- all math tokens of a statement
pub record AtMath (t q w : List ℕ) (n s : ℕ) (k : code.Option Sort) (m : ℕ) (x : Done) : Type 0 where
  pub progress : Progress t w n x m
  pub statement : s < length x.of
  pub next : x.maths ≡ before x.of s
  pub part : q ≡ take (word w (statement_cell s 4) - word w (statement_cell s 3)) (drop (word w (statement_cell s 3)) t)
  pub ahead : Ahead x (map bytes_of (stmt x.of s).math)

pub record SomeMath (t q w : List ℕ) (n s : ℕ) (k : code.Option Sort) (m : ℕ) : Type 0 where
  pub done : Done
  pub holds : AtMath t q w n s k m done

pub record MathNamed (t q w v : List ℕ) (n s : ℕ) (k : code.Option Sort) (m r : ℕ) : Type 0 where
  pub sim : (x : Done) → AtMath t q w n s k m x → Progress t v n (with_math x k (stmt x.of s).math) r

-- the label of a statement
pub record AtLabel (t w : List ℕ) (n s m : ℕ) (x : Done) : Type 0 where
  pub progress : Progress t w n x m
  pub statement : s < length x.of
  pub next : x.labels ≡ s
  pub ahead : Ahead x (map bytes_of (bearer (stmt x.of s)))

pub record SomeLabel (t w : List ℕ) (n s m : ℕ) : Type 0 where
  pub done : Done
  pub holds : AtLabel t w n s m done

pub record LabelNamed (t w v : List ℕ) (n s m r : ℕ) : Type 0 where
  pub sim : (x : Done) → AtLabel t w n s m x → Progress t v n (with_label x (stmt x.of s)) r

-- what a statement declares, by its kind and its end: an outermost `$c` or `$v` does
abbrev pub sort_of : ℕ → code.Option Sort
sort_of k = choose (eqb k 1) (Some Constant) (choose (eqb k 2) (Some Variable) None)

unfoldable pub declaring : ℕ → ℕ → code.Option Sort
declaring k e = choose (eqb e none_end) (sort_of k) None

-- a whole statement
pub record SomeStatement (t w : List ℕ) (n s m : ℕ) : Type 0 where
  pub of : List Statement
  pub here : s < length of
  pub progress : Progress t w n (before_statement of s) m

pub record StatementNamed (t w v : List ℕ) (n s m r : ℕ) : Type 0 where
  pub sim :
      (l : List Statement) → s < length l → Progress t w n (before_statement l s) m
      → Progress t v n (before_statement l (s + 1)) r

-- ---- every statement
pub record Readable (t w : List ℕ) (n rows : ℕ) (l : List Statement) : Type 0 where
  pub rows_of : Rows t w n l
  pub facts : Facts t l
  pub count : rows ≡ length l

pub record SomeRead (t w : List ℕ) (n rows : ℕ) : Type 0 where
  pub of : List Statement
  pub holds : Readable t w n rows of

-- r is the number of names
pub record AllNamed (t w v : List ℕ) (n rows r : ℕ) : Type 0 where
  pub count : (l : List Statement) → Readable t w n rows l → r ≡ length (atoms l)
  pub named : (l : List Statement) → Readable t w n rows l → Named t v n l
  pub fresh : (l : List Statement) → Readable t w n rows l → Fresh v n l
