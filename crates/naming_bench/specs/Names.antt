-- What the work area holds once `bench/run` has had a text read and named.
-- `t` is the text, `v` the words at exit, m how many they are.
use Rattle.std.specs.Prelude.{◌≡◌, List, ℕ, length, replicate}
use Rattle.paper.specs.Statements.{Statement}
use Rattle.paper.specs.Reader.{Outcome, refused, given}
use Rattle.fold.specs.Fold.{Whole}

pub record NamesAll (t v : List ℕ) (l : List Statement) : Type 0 where
  pub rows : ℕ
  pub names : ℕ
  pub whole : Whole t v rows (length l) names l

-- zeros for a text that is refused; else the statements with their names
abbrev pub Names : List ℕ → List ℕ → ℕ → Outcome (List Statement) → Type 0
Names t v m (refused x) = v ≡ replicate m 0
Names t v m (given l) = NamesAll t v l
