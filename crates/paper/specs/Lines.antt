-- A6 of document 02: the line of a place is one more than the count of byte 10 before it.
-- All bytes count, those of comments too. A line is asked for of a text and a place; it is no part of a token.
use Rattle.std.specs.Prelude.{List, [], ◌∷◌, ℕ, suc, ◌+◌, eqb, take}
use Rattle.paper.specs.Base.{choose}

-- 1 for byte 10, 0 for any other
abbrev pub feed : ℕ → ℕ
feed b = choose (eqb b 10) 1 0

-- the count of byte 10
unfoldable pub feeds : List ℕ → ℕ
feeds [] = 0
feeds (b ∷ l) = feed b + feeds l

unfoldable pub line_at : List ℕ → ℕ → ℕ
line_at t o = suc (feeds (take o t))
