-- Atoms: the distinct labels and math tokens of the statements, numbered by first sight.
-- Two tokens have one atom exactly when their bytes are equal.
use Rattle.std.specs.Prelude.{List, [], ◌++◌, map, ℕ, get_or}
use Rattle.paper.specs.Base.{gather}
use Rattle.paper.specs.Tokens.{Token}
use Rattle.paper.specs.Statements.{Statement}
use Rattle.paper.specs.Names.{bearer}
use Rattle.paper.specs.Variables.{sights, index}

abbrev pub bytes_of : Token → List ℕ
bytes_of t = t.bytes

-- the names in a statement: its label, if it bears one, then its math tokens
abbrev pub names_in : Statement → List (List ℕ)
names_in s = map bytes_of (bearer s ++ s.math)

-- the distinct names of the statements, by first sight
unfoldable pub atoms : List Statement → List (List ℕ)
atoms l = sights (gather names_in l) []

-- the atom of a name, and the name of an atom
unfoldable pub atom_of : List Statement → List ℕ → ℕ
atom_of l x = index (atoms l) x

unfoldable pub name_of : List Statement → ℕ → List ℕ
name_of l a = get_or (atoms l) a []
