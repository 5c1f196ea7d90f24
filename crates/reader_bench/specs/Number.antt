-- What the reader is asked for by `bench/read`: document 01's number of a reading.
-- 0, or one of numbers 1 to 6.
use Rattle.std.specs.Prelude.{List, ℕ}
use Rattle.paper.specs.Statements.{Statement}
use Rattle.paper.specs.Reader.{Outcome, refused, given}
use Rattle.paper.specs.Answer.{refusal_number}

abbrev pub reading_number : Outcome (List Statement) → ℕ
reading_number (refused x) = refusal_number x
reading_number (given l) = 0
