-- What is passed between two offsets of a text: the tokens outside comments, and the place of comments before and after.
-- Each answer of the functions that look for tokens says what was passed.
use Rattle.std.specs.Prelude.{◌≡◌, Bool, true, Option, Some, None, Result, Ok, Err, List, [], ◌∷◌, ◌++◌, ℕ, ◌<◌, ◌≤◌, leb, length, get_or}
use Rattle.paper.specs.Base.{all}
use Rattle.paper.specs.Bytes.{white}
use Rattle.paper.specs.Tokens.{Token, tokens}
use Rattle.paper.specs.Comments.{Place, outside, inside, after, bracketed, visible}
use Rattle.paper.specs.Statements.{Item}
use Rattle.paper.specs.Reader.{Mode, start, Step, go, many, refused, items}
use Rattle.paper.specs.Answer.{refusal_line}
use Rattle.paper.specs.declared.Refusal.{Refusal}
use Rattle.paper.specs.declared.Refused.{Refused}
use Rattle.token.specs.Words.{tokens_from, token_of, Lined, Spans}
use Rattle.token.specs.declared.cursor.Span.{Span}
use Rattle.token.specs.declared.cursor.Cursor.{Cursor}
use Rattle.reader.specs.declared.comment.Comment.{Comment}
use Rattle.reader.specs.declared.comment.Comment.TheVariants as comment

-- from offset i to offset e stand the visible tokens ms; the place of comments goes from p to q
pub record Passed (t : List ℕ) (i e : ℕ) (p : Place) (ms : List Token) (q : Place) : Type 0 where
  pub pre : List Token
  pub split : tokens_from t i ≡ pre ++ tokens_from t e
  pub shows : visible pre p ≡ ms
  pub place : after pre p ≡ q

-- white space stands there, or the text ends
abbrev pub Gap : List ℕ → ℕ → Type 0
Gap t e = e < length t → white (get_or t e 0) ≡ true

-- up to e the grammar reads z, from c visible tokens or more
pub record Reached (t : List ℕ) (e c : ℕ) (z : Step) : Type 0 where
  pub seen : List Token
  pub passed : Passed t 0 e outside seen outside
  pub step : many seen (go start 0 []) ≡ z
  pub size : c ≤ length seen

-- a comment never closed, of which i is a place: the tokens that may not stand in it are all that is visible
pub record Unclosed (t : List ℕ) (i p : ℕ) : Type 0 where
  pub ms : List Token
  pub passed : Passed t i (length t) (inside p) ms (inside p)
  pub bad : all (λ y. bracketed y.bytes) ms ≡ true
  pub later : all (λ y. leb i y.at) ms ≡ true

-- a comment with a token that may not stand in it, the first at s; it closes after that, at a place `shut`
pub record Spoilt (t : List ℕ) (i s p : ℕ) : Type 0 where
  pub token : Token
  pub stop : ℕ
  pub passed : Passed t i stop (inside p) (token ∷ []) (inside p)
  pub bad : bracketed token.bytes ≡ true
  pub at : token.at ≡ s
  pub shut : ℕ
  pub closes : after (tokens_from t stop) (inside p) ≡ after (tokens_from t shut) outside
  pub before : s < shut

abbrev pub Commented : List ℕ → ℕ → Comment → Type 0
Commented t i (comment.Closed c) = ((p : ℕ) → Passed t i c.at (inside p) [] outside) × (i ≤ c.at) × Lined t c
Commented t i (comment.Bad c) = ((p : ℕ) → Spoilt t i c.at p) × Lined t c
Commented t i comment.Never = (p : ℕ) → Unclosed t i p

-- the token x is the first that stands there outside comments, and the cursor c stands after it
pub record Shows (t : List ℕ) (i : ℕ) (x : Span) (c : Cursor) : Type 0 where
  pub passed : Passed t i c.at outside (token_of t x ∷ []) outside
  pub onward : i ≤ x.start
  pub whole : Spans t x
  pub stands : c.at ≡ x.stop
  pub lined : Lined t c

-- no token, or a first one that may not stand in a comment
abbrev pub spoilt : List Token → Bool
spoilt [] = true
spoilt (y ∷ l) = bracketed y.bytes

-- the text is refused with x, at the line l
abbrev pub RefusedAt : List ℕ → Refusal → ℕ → Type 0
RefusedAt t x l = (items (tokens t) (length t) ≡ refused x) × (l ≡ refusal_line t x)

-- a comment from i on is refused with x, whatever was read before it; what is visible begins with what may not stand there
pub record Refuses (t : List ℕ) (i : ℕ) (x : Refusal) (l : ℕ) : Type 0 where
  pub items_are : {c d : ℕ} {m : Mode} {j : List Item} → Reached t i c (go m d j) → items (tokens t) (length t) ≡ refused x
  pub first : spoilt (visible (tokens_from t i) outside) ≡ true
  pub line : l ≡ refusal_line t x

-- a comment that begins at i is passed
abbrev pub Skipped : List ℕ → ℕ → Result Cursor Refused → Type 0
Skipped t i (Ok c) = Passed t i c.at outside [] outside × (length (tokens_from t c.at) < length (tokens_from t i)) × (i ≤ c.at) × Lined t c
Skipped t i (Err r) = Refuses t i r.refusal r.line

-- what stands next outside comments, from i on
abbrev pub Seen : List ℕ → ℕ → Result (Option (Span × Cursor)) Refused → Type 0
Seen t i (Ok (Some p)) = Shows t i p.0 p.1
Seen t i (Ok None) = Passed t i (length t) outside [] outside
Seen t i (Err r) = Refuses t i r.refusal r.line
