-- A comment by its bytes: the first `$(` or `$)`, the token in which it stands, and the first `$)` after white space and before
-- white space or the end of the text. From `$` to `$`, no other byte of a comment matters.
use Rattle.std.specs.Prelude.{◌≡◌, ◌≢◌, Bool, true, false, List, [], ◌∷◌, ℕ, suc, ◌+◌, ◌-◌, ◌<◌, ◌≤◌, eqb, length, get_or, drop}
use Rattle.std.proofs.Math.Option.{Option, none, some}
use Rattle.std.specs.Prelude as code
use Rattle.paper.specs.Base.{choose, and}
use Rattle.paper.specs.Bytes.{white}
use Rattle.paper.specs.Comments.{bracket_first}

-- white space, or the end
abbrev pub gap_first : List ℕ → Bool
gap_first [] = true
gap_first (b ∷ l) = white b

-- `)` and then white space or the end
abbrev pub shuts : List ℕ → Bool
shuts [] = false
shuts (b ∷ l) = and (eqb b 41) (gap_first l)

-- `$)` and then white space or the end
abbrev pub closes_first : List ℕ → Bool
closes_first [] = false
closes_first (b ∷ l) = and (eqb b 36) (shuts l)

-- `$` and then `(` or `)`
abbrev pub mark_first : List ℕ → Bool
mark_first [] = false
mark_first (b ∷ l) = and (eqb b 36) (bracket_first l)

-- the offset after the first `$)`, where the bytes start at offset o, and w says whether white space stands before them
unfoldable pub close_from : List ℕ → ℕ → Bool → Option ℕ
close_from [] o w = none
close_from (b ∷ l) o w =
    let r = close_from l (suc o) (white b) in choose (and w (closes_first (b ∷ l))) (some (o + 2)) r

-- whether a token may start at offset i of a comment that goes on from `at`
unfoldable pub opens_at : List ℕ → ℕ → ℕ → Bool
opens_at t at i = choose (eqb i at) true (white (get_or t (i - 1) 0))

unfoldable pub seek : List ℕ → ℕ → ℕ → Option ℕ
seek t at i = close_from (drop i t) i (opens_at t at i)

abbrev pub found : Option ℕ → Bool
found none = false
found (some e) = true

-- the first `$` from i on, or the end
pub record Dollar (t : List ℕ) (i k : ℕ) : Type 0 where
  pub from : i ≤ k
  pub within : k ≤ length t
  pub plain : (j : ℕ) → i ≤ j → j < k → get_or t j 0 ≢ 36
  pub here : k < length t → get_or t k 0 ≡ 36

abbrev pub NextDollar : List ℕ → ℕ → code.Option ℕ → Type 0
NextDollar t i (code.Some k) = Dollar t i k × (k < length t)
NextDollar t i code.None = Dollar t i (length t)

-- the first `$(` or `$)` from i on, or the end
pub record Mark (t : List ℕ) (i k : ℕ) : Type 0 where
  pub from : i ≤ k
  pub within : k ≤ length t
  pub plain : (j : ℕ) → i ≤ j → j < k → mark_first (drop j t) ≡ false
  pub here : k < length t → mark_first (drop k t) ≡ true

abbrev pub NextMark : List ℕ → ℕ → code.Option ℕ → Type 0
NextMark t i (code.Some k) = Mark t i k × (k < length t)
NextMark t i code.None = Mark t i (length t)

-- the place after the last white space from i up to k, or i
pub record Begins (t : List ℕ) (i k s : ℕ) : Type 0 where
  pub from : i ≤ s
  pub upto : s ≤ k
  pub opens : i < s → white (get_or t (s - 1) 0) ≡ true
  pub inside : (j : ℕ) → s ≤ j → j < k → white (get_or t j 0) ≡ false
