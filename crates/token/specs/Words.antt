-- Tokens by offsets: where the white space at an offset stops, where the token there stops, and the tokens from an offset on.
-- What the cursor answers is the first of those tokens with its line; `Spans` and `Read` say all that a crate above needs of it.
use Rattle.std.specs.Prelude.{◌≡◌, true, Option, Some, None, List, [], ◌∷◌, ℕ, suc, ◌+◌, ◌-◌, ◌<◌, ◌≤◌, leb, length, get_or, take, drop}
use Rattle.paper.specs.Base.{choose}
use Rattle.paper.specs.Bytes.{white}
use Rattle.paper.specs.Tokens.{Token, toks, label_token, math_token}
use Rattle.paper.specs.Lines.{line_at}
use Rattle.token.specs.Class.{least}
use Rattle.token.specs.declared.cursor.Span.{Span}
use Rattle.token.specs.declared.cursor.Cursor.{Cursor}

-- how many of the first bytes are white space, and those of the first bytes that are not
unfoldable pub gap : List ℕ → ℕ
gap [] = 0
gap (b ∷ l) = let r = suc (gap l) in choose (white b) r 0

unfoldable pub word : List ℕ → List ℕ
word [] = []
word (b ∷ l) = let r = b ∷ word l in choose (white b) [] r

unfoldable pub past_gap : List ℕ → ℕ → ℕ
past_gap t i = i + gap (drop i t)

-- a cursor that has the line of its place
abbrev pub Lined : List ℕ → Cursor → Type 0
Lined t c = c.line ≡ line_at t c.at

-- the token from c on whose bytes before i have the least class a, where i is in it or at its end
unfoldable pub span_from : List ℕ → Cursor → ℕ → ℕ → Span
span_from t c i a =
    record { start = c.at; stop = i + length (word (drop i t)); least = least (word (drop i t)) a; line = c.line }

-- the tokens that start at an offset or later
unfoldable pub tokens_from : List ℕ → ℕ → List Token
tokens_from t i = toks (drop i t) i

-- the token with the bytes from one offset to another
abbrev pub token_at : List ℕ → ℕ → ℕ → Token
token_at t s e = record { at = s; bytes = take (e - s) (drop s t) }

abbrev pub token_of : List ℕ → Span → Token
token_of t x = token_at t x.start x.stop

-- a token of a part of the text that starts at offset k, as a token of the text
abbrev pub move : ℕ → Token → Token
move k x = record { at = x.at + k; bytes = x.bytes }

abbrev pub span_of : List ℕ → Token → Span
span_of t x = record { start = x.at; stop = x.at + length x.bytes; least = least x.bytes 4; line = line_at t x.at }

-- no token holds byte 10, so the cursor after it has its line
abbrev pub next_of : List ℕ → List Token → Option (Span × Cursor)
next_of t [] = None
next_of t (x ∷ r) = Some (span_of t x, record { at = x.at + length x.bytes; line = line_at t x.at })

-- a span that is a token of the text
pub record Spans (t : List ℕ) (x : Span) : Type 0 where
  pub here : tokens_from t x.start ≡ token_of t x ∷ tokens_from t x.stop
  pub some : x.start < x.stop
  pub within : x.stop ≤ length t
  pub closed : x.stop < length t → white (get_or t x.stop 0) ≡ true
  pub label : leb 4 x.least ≡ label_token (token_of t x)
  pub math : leb 3 x.least ≡ math_token (token_of t x)
  pub lined : x.line ≡ line_at t x.start

-- the first token from offset i on
pub record Read (t : List ℕ) (i : ℕ) (x : Span) (c : Cursor) : Type 0 where
  pub skip : tokens_from t i ≡ tokens_from t x.start
  pub stands : c.at ≡ x.stop
  pub from : i ≤ x.start
  pub whole : Spans t x
  pub lined : Lined t c
