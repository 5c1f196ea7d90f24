-- Runs of math tokens: what is asked, what is known while one is read, what it promises; and how a run closes.
-- `t` is the text, `w` and `v` the words before and after, `n` is N + 1.
use Rattle.std.specs.Prelude.{◌≡◌, Bool, true, false, Option, Some, None, Result, Ok, Err, List, ℕ, ◌+◌, ◌*◌, ◌<◌, ◌≤◌, leb, ltb, length, get_or}
use Rattle.paper.specs.Base.{choose, and, sameb, all}
use Rattle.paper.specs.Tokens.{Token, math_token}
use Rattle.paper.specs.Comments.{outside}
use Rattle.paper.specs.Checks.{no_token}
use Rattle.paper.specs.declared.Refusal.TheVariants.{BadToken, OpenText}
use Rattle.paper.specs.declared.Refused.{Refused}
use Rattle.area.specs.Cells.{math_cell, word, Only}
use Rattle.token.specs.Words.{tokens_from, token_of, Lined}
use Rattle.token.specs.declared.cursor.Span.{Span}
use Rattle.token.specs.declared.cursor.Cursor.{Cursor}
use Rattle.reader.specs.Rows.{Stands}
use Rattle.reader.specs.Passed.{Passed, Gap, Seen}
use Rattle.reader.specs.declared.run.Run.{Run}
use Rattle.reader.specs.declared.run.Stretch.{Stretch}

-- what a run asks: the tokens left fit the math column from `first` on
pub record RunRoom (t w : List ℕ) (n at first : ℕ) : Type 0 where
  pub room : 16 * n ≤ length w
  pub few : first + length (tokens_from t at) < n
  pub small : n ≤ 16777217
  pub short : length t ≤ 16777216
  pub within : at ≤ length t
  pub gap : Gap t at

-- the run so far, up to `stop`
pub record Running (t w v : List ℕ) (n at most first stop count : ℕ) : Type 0 where
  pub ms : List Token
  pub passed : Passed t at stop outside ms outside
  pub counted : length ms ≡ count
  pub maths : all math_token ms ≡ true
  pub upto : count ≤ most
  pub stored : (k : ℕ) → k < length ms → word v (math_cell n (first + k)) ≡ (get_or ms k no_token).at
  pub stand : (k : ℕ) → k < length ms → Stands t (get_or ms k no_token)
  pub only : Only (math_cell n first) (math_cell n (first + count)) w v
  pub onward : at ≤ stop
  pub within : stop ≤ length t
  pub gap : Gap t stop

-- a run that stopped at c with so many tokens, whichever it is, has gone on to r over math tokens
pub record Stretched (t w v : List ℕ) (n most first : ℕ) (c : Cursor) (count : ℕ) (r : Stretch) : Type 0 where
  pub sim : {u : List ℕ} {at : ℕ} → Running t u w n at most first c.at count → Running t u v n at most first r.stop.at r.count
  pub room : RunRoom t v n r.stop.at (first + r.count)
  pub lined : Lined t r.stop
  pub len : length v ≡ length w
  pub less : length (tokens_from t r.stop.at) ≤ length (tokens_from t c.at)

-- whether a math token stands next
abbrev pub math_next : List ℕ → Result (Option (Span × Cursor)) Refused → Bool
math_next t (Ok (Some p)) = math_token (token_of t p.0)
math_next t (Ok None) = false
math_next t (Err r) = false

pub record Ran (t w v : List ℕ) (n at most first : ℕ) (r : Run) : Type 0 where
  pub run : Running t w v n at most first r.stop.at r.count
  pub after : Seen t r.stop.at r.after
  pub ends : and (math_next t r.after) (ltb r.count most) ≡ false

-- a run of which only is kept whether it has a token
pub record Proving (t : List ℕ) (at stop count : ℕ) : Type 0 where
  pub ps : List Token
  pub passed : Passed t at stop outside ps outside
  pub some : leb 1 count ≡ leb 1 (length ps)
  pub maths : all math_token ps ≡ true

pub record Proved (t : List ℕ) (at : ℕ) (r : Run) : Type 0 where
  pub run : Proving t at r.stop.at r.count
  pub after : Seen t r.stop.at r.after
  pub ends : math_next t r.after ≡ false

abbrev pub closing_of : List ℕ → Result (Option (Span × Cursor)) Refused → ℕ → ℕ → List ℕ → Result Cursor Refused
closing_of t (Ok (Some p)) count least key =
    choose (and (sameb (token_of t p.0).bytes key) (leb least count)) (Ok p.1) (Err (record { refusal = BadToken p.0.start; line = p.0.line }))
closing_of t (Ok None) count least key = Err (record { refusal = OpenText (length t); line = 0 })
closing_of t (Err r) count least key = Err r
