-- Proofs passed by their bytes: up to the first that is neither white space nor a math byte, and back to where its token begins.
-- `t` is the text; between the two places only math tokens stand.
use Rattle.std.specs.Prelude.{◌≡◌, Bool, true, false, List, ℕ, ◌<◌, ◌≤◌, length, get_or}
use Rattle.paper.specs.Base.{or, all}
use Rattle.paper.specs.Bytes.{white, math_byte}
use Rattle.paper.specs.Tokens.{Token, math_token}
use Rattle.paper.specs.Comments.{outside}
use Rattle.reader.specs.Passed.{Passed}

-- white space or a math byte
abbrev pub plain : ℕ → Bool
plain b = or (white b) (math_byte b)

-- from i up to k there are only such bytes
pub record Plain (t : List ℕ) (i k : ℕ) : Type 0 where
  pub from : i ≤ k
  pub within : k ≤ length t
  pub bytes : (j : ℕ) → i ≤ j → j < k → plain (get_or t j 0) ≡ true

-- the first other byte from i on, or the end
pub record Odd (t : List ℕ) (i k : ℕ) : Type 0 where
  pub upto : Plain t i k
  pub here : k < length t → plain (get_or t k 0) ≡ false

-- from i to s stand math tokens, and no others
pub record Hopped (t : List ℕ) (i s : ℕ) : Type 0 where
  pub ps : List Token
  pub passed : Passed t i s outside ps outside
  pub maths : all math_token ps ≡ true
