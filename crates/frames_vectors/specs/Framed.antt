-- What the streams of a text that is read are: the definition's, for every statement list that the rows stand for.
-- `t` is the text, `w` the words that the reader left; `b` and `o` are the buffers of frames and diagnostics.
use Rattle.std.specs.Prelude.{List, ℕ, Result}
use Rattle.paper.specs.Statements.{Statement}
use Rattle.paper.specs.Give.{all_given}
use Rattle.paper.specs.declared.Setting.TheVariants.{Full}
use Rattle.paper.specs.declared.StatementOffset.{StatementOffset}
use Rattle.fold.specs.declared.all.Streams.{Streams}
use Rattle.fold.specs.Fold.{Streamed}
use Rattle.fold.specs.Start.{Held}

pub record Framed (t w : List ℕ) (rows : ℕ) (b b' o o' : List ℕ) (r : Result Streams StatementOffset) : Type 0 where
  pub sim : {l : List Statement} → Held t w rows l → Streamed Full b b' o o' (all_given l) r
