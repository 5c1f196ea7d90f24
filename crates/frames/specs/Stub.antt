-- What the stub frame of a `$f` asks of the words and promises of the buffer.
-- `t` is the text, `w` the words, `n` is N + 1, `row` the row of the statement.
use Rattle.std.specs.Prelude.{◌≡◌, List, ℕ, ◌+◌, ◌<◌, ◌≤◌, length}
use Rattle.paper.specs.Statements.{$f, Statement}
use Rattle.paper.specs.Checks.{token}
use Rattle.paper.specs.Frames.{Frame, stub}
use Rattle.paper.specs.Records.{frame_record}
use Rattle.stream.specs.Wrote.{Wrote}
use Rattle.reader.specs.Rows.{stmt}
use Rattle.facts.specs.Facts.{Facts}
use Rattle.nameck.specs.Named.{Named}

-- the words stand for a text's statements, and a `$f` is in this row
pub record OfFloat (t w : List ℕ) (n : ℕ) (l : List Statement) (row : ℕ) : Type 0 where
  pub named : Named t w n l
  pub facts : Facts t l
  pub small : n ≤ 16777217
  pub here : row < length l
  pub kind : (stmt l row).kind ≡ $f

pub record CanStub (t w : List ℕ) (n row : ℕ) : Type 0 where
  pub l : List Statement
  pub holds : OfFloat t w n l row

-- the frame that the definition gives it
unfoldable pub stub_of : Statement → Frame
stub_of s = stub s.at s.end s.label (token s 0).bytes (token s 1).bytes

pub record Stubs (t w : List ℕ) (n row : ℕ) (b b' : List ℕ) (at r : ℕ) : Type 0 where
  pub few : r ≤ at + 67108864
  pub sim : (l : List Statement) → OfFloat t w n l row → Wrote b b' at r (frame_record (stub_of (stmt l row)))
