-- What the diagnostics of a text that is read are: the definition's, for every statement list that the rows stand for.
-- `t` is the text, `w` the words that the reader left.
use Rattle.std.specs.Prelude.{List, ℕ}
use Rattle.paper.specs.Statements.{Statement}
use Rattle.paper.specs.Give.{all_given}
use Rattle.paper.specs.Records.{diag_stream}
use Rattle.stream.specs.Wrote.{Wrote}
use Rattle.fold.specs.Start.{Held}

pub record Diagnosed (t w : List ℕ) (rows : ℕ) (b b' : List ℕ) (r : ℕ) : Type 0 where
  pub sim : {l : List Statement} → Held t w rows l → Wrote b b' 0 r (diag_stream (all_given l))
