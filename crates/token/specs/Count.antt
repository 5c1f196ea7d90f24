-- N and the first bad byte, as the code's answer; and what the pass without branches counts.
-- A token starts at each byte that is not white space and stands first or after white space.
use Rattle.std.specs.Prelude.{Option, Some, None, List, [], ◌∷◌, ◌≡◌, ℕ, ◌+◌, ◌<◌, eqb, ltb, length, get_or}
use Rattle.std.specs.Int.{from_bool}
use Rattle.std.proofs.Math.Option as found
use Rattle.paper.specs.Base.{choose}
use Rattle.paper.specs.Tokens.{tokens, bad_from}
use Rattle.token.specs.Class.{class}
use Rattle.token.specs.declared.count.Counted.{Counted}
use Rattle.token.specs.declared.count.Tally.{Tally}

-- how many tokens start in some bytes; w is 1 if white space stands before them, or nothing
unfoldable pub starts : List ℕ → ℕ → ℕ
starts [] w = 0
starts (b ∷ l) w = from_bool (ltb (from_bool (eqb (class b) 1)) w) + starts l (from_bool (eqb (class b) 1))

unfoldable pub bads : List ℕ → ℕ
bads [] = 0
bads (b ∷ l) = from_bool (eqb (class b) 0) + bads l

-- what a class weighs: white space 1, a bad byte 2^32, any other nothing
abbrev pub weight : ℕ → ℕ
weight c = choose (eqb c 1) 1 (choose (eqb c 0) 4294967296 0)

-- the weights of bytes 0 to 255
pub record Weights (l : List ℕ) : Type 0 where
  pub len : length l ≡ 256
  pub at : (b : ℕ) → b < 256 → get_or l b 0 ≡ weight (class b)

abbrev pub tally_of : List ℕ → Tally
tally_of t = record { tokens = starts t 1; bads = bads t }

abbrev pub bad_of : found.Option ℕ → Option ℕ
bad_of found.none = None
bad_of (found.some o) = Some o

abbrev pub count_of : List ℕ → Counted
count_of t = record { tokens = length (tokens t); bad = bad_of (bad_from t 0) }
