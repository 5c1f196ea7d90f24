-- All that is asked of a record but its label, together.
-- For callers that have the bytes and a place.
use Rattle.std.specs.Prelude.{List, ℕ}
use Rattle.stream.specs.Fields.{kind_at, variables_at, mandatory_at, hypotheses_at}
use Rattle.stream.specs.declared.view.Facts.{Facts}

abbrev pub facts_at : List ℕ → ℕ → Facts
facts_at l at =
    record {
      kind = kind_at l at;
      variables = variables_at l at;
      mandatory = mandatory_at l at;
      hypotheses = hypotheses_at l at;
    }
