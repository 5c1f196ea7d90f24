-- The front of an assertion's record, after its length, and what its writer asks and promises.
-- `t` is the text, `w` the words, `n` is N + 1, `row` the row of the statement.
use Rattle.std.specs.Prelude.{List, ◌++◌, ℕ, ◌+◌, ◌<◌, ◌≤◌, length}
use Rattle.paper.specs.Statements.{Kind, $c, $v, $d, $f, $e, $a, $p, Statement}
use Rattle.paper.specs.Records.{u16, u32, string}
use Rattle.stream.specs.Wrote.{Wrote}
use Rattle.reader.specs.Rows.{stmt}
use Rattle.facts.specs.Facts.{Facts}
use Rattle.nameck.specs.Named.{Named}

-- the kind of the record of an assertion
abbrev pub record_kind : Kind → ℕ
record_kind $c = 0
record_kind $v = 0
record_kind $d = 0
record_kind $f = 0
record_kind $e = 0
record_kind $a = 2
record_kind $p = 3

unfoldable pub front : Statement → ℕ → ℕ → List ℕ
front s v m = u16 (record_kind s.kind) ++ (u32 s.at ++ (string s.label ++ (u16 v ++ u16 m)))

-- the words stand for a text's statements, and an assertion is in this row
pub record OfAssertion (t w : List ℕ) (n : ℕ) (l : List Statement) (row : ℕ) : Type 0 where
  pub named : Named t w n l
  pub facts : Facts t l
  pub small : n ≤ 16777217
  pub here : row < length l
  pub kind : 0 < record_kind (stmt l row).kind

pub record CanFront (t w : List ℕ) (n row : ℕ) : Type 0 where
  pub l : List Statement
  pub holds : OfAssertion t w n l row

pub record Fronts (t w : List ℕ) (n row v m : ℕ) (b b' : List ℕ) (at r : ℕ) : Type 0 where
  pub few : r ≤ at + 16777240
  pub sim : (l : List Statement) → OfAssertion t w n l row → Wrote b b' at r (front (stmt l row) v m)
