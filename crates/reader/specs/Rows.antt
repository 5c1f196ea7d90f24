-- What the words of the work area say of the statements of a text, once it is read.
-- `t` is the text, `w` the words, `n` is N + 1, `l` the statements.
use Rattle.std.specs.Prelude.{◌≡◌, true, List, [], ◌∷◌, ℕ, ◌+◌, ◌-◌, ◌*◌, ◌<◌, ◌≤◌, length, get_or, take, drop}
use Rattle.paper.specs.Base.{gather}
use Rattle.paper.specs.Tokens.{Token, toks, tokens}
use Rattle.paper.specs.Comments.{outside, visible}
use Rattle.paper.specs.Statements.{Kind, $c, $v, $d, $f, $e, $a, $p, labelled, Statement}
use Rattle.paper.specs.Checks.{token}
use Rattle.area.specs.Cells.{statement_cell, bucket_cell, math_cell, word}

abbrev pub no_statement : Statement
no_statement = record { kind = $c; at = 0; end = 0; label = []; math = []; proof = [] }

-- the s-th statement
unfoldable pub stmt : List Statement → ℕ → Statement
stmt l s = get_or l s no_statement

-- the number of math tokens of the statements before the s-th
unfoldable pub before : List Statement → ℕ → ℕ
before l s = length (gather (λ x. x.math) (take s l))

abbrev pub kind_number : Kind → ℕ
kind_number $c = 1
kind_number $v = 2
kind_number $d = 3
kind_number $f = 4
kind_number $e = 5
kind_number $a = 6
kind_number $p = 7

-- a token that stands in the text: from its offset on, it is the first, and the tokens after it follow
pub record Stands (t : List ℕ) (x : Token) : Type 0 where
  pub here : toks (drop x.at t) x.at ≡ x ∷ toks (drop (x.at + length x.bytes) t) (x.at + length x.bytes)
  pub bytes : take (length x.bytes) (drop x.at t) ≡ x.bytes
  pub some : 0 < length x.bytes
  pub within : x.at + length x.bytes ≤ length t

-- the label of a statement, as a token
abbrev pub label_of : Statement → Token
label_of s = record { at = s.at; bytes = s.label }

-- the words that keep their meaning from reading on: kind, offset, math string, math tokens before and in it, end
pub record Shape (t w : List ℕ) (n : ℕ) (l : List Statement) : Type 0 where
  pub rows : n ≡ length (tokens t) + 1
  pub room : 16 * n ≤ length w
  pub short : length t ≤ 16777216
  pub few : 3 * length l < n
  pub maths : before l (length l) < n
  pub kind : (s : ℕ) → s < length l → word w (statement_cell s 0) ≡ kind_number (stmt l s).kind
  pub at : (s : ℕ) → s < length l → word w (statement_cell s 1) ≡ (stmt l s).at
  pub from_to : (s : ℕ) → s < length l → word w (statement_cell s 3) ≤ word w (statement_cell s 4)
  pub within : (s : ℕ) → s < length l → word w (statement_cell s 4) ≤ length t
  pub first : (s : ℕ) → s < length l → word w (statement_cell s 5) ≡ before l s
  pub count : (s : ℕ) → s < length l → word w (statement_cell s 6) ≡ length (stmt l s).math
  pub end : (s : ℕ) → s < length l → word w (statement_cell s 7) ≡ (stmt l s).end
  -- the math string, from word 3 up to word 4, is a part of the text with just the math tokens in it outside comments
  pub part :
      (s : ℕ) → s < length l
      → visible (toks (take (word w (statement_cell s 4) - word w (statement_cell s 3)) (drop (word w (statement_cell s 3)) t)) (word w (statement_cell s 3))) outside
      ≡ (stmt l s).math

-- after reading: besides, the length of each label and the offset of each math token; the bucket column is 0
pub record Rows (t w : List ℕ) (n : ℕ) (l : List Statement) : Type 0 where
  pub shape : Shape t w n l
  pub label : (s : ℕ) → s < length l → word w (statement_cell s 2) ≡ length (stmt l s).label
  pub bears : (s : ℕ) → s < length l → labelled (stmt l s).kind ≡ true → Stands t (label_of (stmt l s))
  pub math :
      (s i : ℕ) → s < length l → i < length (stmt l s).math
      → word w (math_cell n (before l s + i)) ≡ (token (stmt l s) i).at
  pub stands : (s i : ℕ) → s < length l → i < length (stmt l s).math → Stands t (token (stmt l s) i)
  pub buckets : (b : ℕ) → b < n → word w (bucket_cell n b) ≡ 0
