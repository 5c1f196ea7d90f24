-- What a function that puts words on the stack promises: what is below the place is as before, and the words follow it.
-- Above the place that is answered anything may stand.
use Rattle.std.specs.Prelude.{◌≡◌, Option, Some, None, List, ◌++◌, ℕ, ◌+◌, ◌-◌, ◌<◌, ◌≤◌, length, take, drop}

-- the stack l becomes m, with the words x from p up to q
pub record LaidFrom (l m : List ℕ) (p q : ℕ) (x : List ℕ) : Type 0 where
  pub front : take q m ≡ take p l ++ x
  pub place : q ≡ p + length x
  pub within : q ≤ length m

-- laid up to q, or there is no room
abbrev pub laid_or_not : Option ℕ → List ℕ → List ℕ → ℕ → List ℕ → Type 0
laid_or_not (Some q) l m p x = LaidFrom l m p q x
laid_or_not None l m p x = length l < p + length x

pub record Pushes (l m : List ℕ) (p : ℕ) (r : Option ℕ) (x : List ℕ) : Type 0 where
  pub len : length m ≡ length l
  pub done : laid_or_not r l m p x

-- the words of l from `from` up to `to` stand at `base`, and r is the place after them
pub record Moved (l m : List ℕ) (base from to r : ℕ) : Type 0 where
  pub len : length m ≡ length l
  pub place : r ≡ base + (to - from)
  pub front : take r m ≡ take base l ++ drop from (take to l)
