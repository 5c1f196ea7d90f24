-- Scope rules: the active `$d` of a frame, mandatory pairs and rows.
-- Only `$d` before the assertion count; a rejected one has no effect.
use Rattle.std.specs.Prelude.{Bool, List, [], ◌∷◌, ◌++◌, map, ℕ, eqb}
use Rattle.paper.specs.Base.{choose, and, or, not, sameb, any, keep, gather}
use Rattle.paper.specs.Statements.{none_end}
use Rattle.paper.specs.State.{Disjoint}
use Rattle.paper.specs.Variables.{member, index}

-- ---- Active `$d`: outermost first, then nested, each in text order
abbrev pub outer : Disjoint → Bool
outer d = eqb d.end none_end

abbrev pub inner : Disjoint → Bool
inner d = not (outer d)

unfoldable pub in_order : List Disjoint → List (List (List ℕ))
in_order l = map (λ d. d.names) (keep outer l ++ keep inner l)

-- ---- A mandatory pair is listed once, in the orientation and order of first discovery (for each position, the positions
-- right of it)
pub record Pair : Type 0 where
  pub left : ℕ
  pub right : ℕ

abbrev pub pair : ℕ → ℕ → Pair
pair x y = record { left = x; right = y }

unfoldable pub pairs_in : List ℕ → List Pair
pairs_in [] = []
pairs_in (x ∷ l) = map (pair x) l ++ pairs_in l

-- the numbers of the mandatory variables that a `$d` names
abbrev pub mandatory_in : List (List ℕ) → List (List ℕ) → List ℕ
mandatory_in m d = map (index m) (keep (λ n. member n m) d)

abbrev pub same_pair : Pair → Pair → Bool
same_pair x y =
    or (and (eqb x.left y.left) (eqb x.right y.right))
    (and (eqb x.left y.right) (eqb x.right y.left))

abbrev pub new_pair : List Pair → Pair → List Pair
new_pair l x = choose (any (same_pair x) l) [] (x ∷ [])

-- the pairs that are not found in l, each once
unfoldable pub new_pairs : List Pair → List Pair → List Pair
new_pairs [] l = []
new_pairs (x ∷ m) l = new_pair l x ++ new_pairs m (l ++ new_pair l x)

abbrev pub pairs_by : List (List ℕ) → List (List ℕ) → List Pair
pairs_by m d = pairs_in (mandatory_in m d)

unfoldable pub pairs : List (List ℕ) → List (List (List ℕ)) → List Pair
pairs m d = new_pairs (gather (pairs_by m) d) []

-- ---- Bit j of row i is set exactly when an active `$d` names both distinct variables
abbrev pub names_both : List ℕ → List ℕ → List (List ℕ) → Bool
names_both x y d = and (member x d) (member y d)

abbrev pub apart : List (List (List ℕ)) → List ℕ → List ℕ → Bool
apart d x y = and (not (sameb x y)) (any (names_both x y) d)

abbrev pub row : List (List ℕ) → List (List (List ℕ)) → List ℕ → List Bool
row l d x = map (apart d x) l

unfoldable pub rows : List (List ℕ) → List (List (List ℕ)) → List (List Bool)
rows l d = map (row l d) l
