-- A text that is read, as the words hold it, and what the fold starts from.
-- `t` is the text, `w` the words that the reader left, `v` those after naming.
use Rattle.std.specs.Prelude.{◌≡◌, List, ℕ, ◌+◌, length}
use Rattle.paper.specs.Tokens.{tokens}
use Rattle.paper.specs.Statements.{Statement}
use Rattle.paper.specs.Reader.{given, reading}
use Rattle.reader.specs.Rows.{Rows}
use Rattle.fold.specs.declared.start.Started.{Started}
use Rattle.fold.specs.Fold.{Whole}

-- read in a work area of so many words
pub record Held (t w : List ℕ) (rows : ℕ) (l : List Statement) : Type 0 where
  pub words : ℕ
  pub read : reading t words ≡ given l
  pub rows_of : Rows t w (length (tokens t) + 1) l
  pub count : rows ≡ length l

pub record Read (t w : List ℕ) (rows : ℕ) : Type 0 where
  pub of : List Statement
  pub holds : Held t w rows of

pub record Starts (t w v : List ℕ) (rows : ℕ) (r : Started) : Type 0 where
  pub len : length v ≡ length w
  pub sim : {l : List Statement} → Held t w rows l → Whole t v r.n rows r.names l
