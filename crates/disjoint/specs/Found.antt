-- The pairs of numbers that the active `$d` name, in the order in which they are found, mandatory or not.
-- `vs` are the variables of a frame, the mandatory ones first; `d` the names of each `$d`.
use Rattle.std.specs.Prelude.{Bool, List, map, ℕ, eqb, ltb}
use Rattle.paper.specs.Base.{and, not, any, gather}
use Rattle.sight.specs.Sums.{sum, one}
use Rattle.paper.specs.Variables.{index}
use Rattle.paper.specs.Pairs.{Pair, pair, pairs_in, same_pair}

-- the pairs of one `$d`
abbrev pub found_in : List (List ℕ) → List (List ℕ) → List Pair
found_in vs d = pairs_in (map (index vs) d)

unfoldable pub found : List (List ℕ) → List (List (List ℕ)) → List Pair
found vs d = gather (found_in vs) d

-- whether both are below m
abbrev pub both : ℕ → Pair → Bool
both m p = and (ltb p.left m) (ltb p.right m)

-- two numbers that differ, and both below m
abbrev pub distinct : Pair → Bool
distinct x = not (eqb x.left x.right)

abbrev pub proper : ℕ → Pair → Bool
proper m x = and (both m x) (distinct x)

-- whether a pair is among some pairs, in either orientation
unfoldable pub meets : List Pair → ℕ → ℕ → Bool
meets l x y = any (same_pair (pair x y)) l

-- whether a number is among some
unfoldable pub has : ℕ → List ℕ → Bool
has i l = any (eqb i) l

-- whether u is below v and the two are a pair of l
abbrev pub rising : List Pair → ℕ → ℕ → Bool
rising l u v = and (ltb u v) (meets l u v)

-- how many numbers v below m are above u and a pair with it
unfoldable pub partners : List Pair → ℕ → ℕ → ℕ
partners l m u = sum (λ v. one (rising l u v)) m

-- the pairs below m, counted
unfoldable pub count : List Pair → ℕ → ℕ
count l m = sum (partners l m) m
