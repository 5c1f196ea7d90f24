-- What the view of a record promises, for all inputs: the number that comes back, and the six numbers at exit.
-- `f` is the frame stream, `p` the record's place, `v'` is `view` at exit. Any two results are equal.
use Rattle.std.specs.Prelude.{◌≡◌, List, [], ◌∷◌, ℕ, ◌+◌, length, Option, Some, None}
use Rattle.paper.specs.Lookup.{label_place}
use Rattle.stream.specs.Fields.{label_at, kind_at, variables_at, mandatory_at, hypotheses_at}

-- every number in a record is below 2^32, so that none is told apart
abbrev pub told : Option ℕ → ℕ
told (Some n) = n
told None = 18446744073709551615

-- a record that is not well framed has no kind
abbrev pub view_number : Option ℕ → ℕ
view_number (Some k) = 0
view_number None = 10

-- where the label's bytes start, from the record's start
abbrev pub label_start : Option ℕ → ℕ
label_start (Some k) = label_place k + 4
label_start None = 0

-- kind, start and length of the label, V, M, hypothesis count
abbrev pub six : List ℕ → ℕ → List ℕ
six f p =
    told (kind_at f p)
    ∷ label_start (kind_at f p)
    ∷ length (label_at f p)
    ∷ told (variables_at f p)
    ∷ told (mandatory_at f p)
    ∷ told (hypotheses_at f p)
    ∷ []

pub record Viewed (f : List ℕ) (p : ℕ) (v' : List ℕ) (n : ℕ) : Type 0 where
  pub number : n ≡ view_number (kind_at f p)
  pub view : v' ≡ six f p

-- ---- uniqueness
pub record Seen : Type 0 where
  pub number : ℕ
  pub view : List ℕ

abbrev pub UniqueView : Type 0
UniqueView = (f : List ℕ) (p : ℕ) (r s : Seen) → Viewed f p r.view r.number → Viewed f p s.view s.number → r ≡ s
