-- What a match of some symbols promises: the question is answered, or what is left of it is asked further on.
-- Matches compose as the symbols do.
use Rattle.std.specs.Prelude.{◌≡◌, Bool, false, Option, Some, None, List, ◌++◌, ℕ, drop}
use Rattle.unify.specs.Entries.{agrees}

-- the question for the symbols m that are left, if the words agree up to q; none if they differ
abbrev pub left_of : Option ℕ → List ℕ → List ℕ → Bool
left_of (Some q) m l = agrees m (drop q l)
left_of None m l = false

-- the symbols x against the words of l from p on
pub record Matches (x l : List ℕ) (p : ℕ) (r : Option ℕ) : Type 0 where
  pub rest : (m : List ℕ) → agrees (x ++ m) (drop p l) ≡ left_of r m l
