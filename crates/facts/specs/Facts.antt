-- What holds of the statements of every text that is read: order, nesting of ends, shapes, counts.
-- `t` is the text, `l` its statements.
use Rattle.std.specs.Prelude.{◌≡◌, true, false, List, [], ℕ, ◌+◌, ◌*◌, ◌<◌, ◌≤◌, length}
use Rattle.paper.specs.Base.{all}
use Rattle.paper.specs.Bytes.{label_byte, math_byte}
use Rattle.paper.specs.Tokens.{tokens}
use Rattle.paper.specs.Statements.{$d, $f, labelled, Statement, none_end}
use Rattle.paper.specs.Names.{labels}
use Rattle.paper.specs.Checks.{token}
use Rattle.reader.specs.Rows.{stmt, before}

-- one statement alone
pub record Shaped (t : List ℕ) (s : Statement) : Type 0 where
  pub below : s.at < length t
  pub lives : s.at < s.end
  pub last : s.end ≤ none_end
  -- an end that is not none is an offset
  pub ends : (s.end ≡ none_end → ⊥) → s.end < length t
  pub some : 1 ≤ length s.math
  pub pair : s.kind ≡ $d → 2 ≤ length s.math
  pub two : s.kind ≡ $f → length s.math ≡ 2
  pub label : labelled s.kind ≡ true → 0 < length s.label
  pub no_label : labelled s.kind ≡ false → s.label ≡ []
  pub label_bytes : all label_byte s.label ≡ true
  -- its math tokens
  pub after : (i : ℕ) → i < length s.math → s.at < (token s i).at
  pub rising : (i j : ℕ) → i < j → j < length s.math → (token s i).at < (token s j).at
  pub inside : (i : ℕ) → i < length s.math → (token s i).at + length (token s i).bytes ≤ length t
  pub named : (i : ℕ) → i < length s.math → 0 < length (token s i).bytes
  pub bytes : (i : ℕ) → i < length s.math → all math_byte (token s i).bytes ≡ true

pub record Facts (t : List ℕ) (l : List Statement) : Type 0 where
  pub short : length t ≤ 16777216
  pub shaped : (s : ℕ) → s < length l → Shaped t (stmt l s)
  -- text order: a statement ends before the next begins
  pub order : (j k : ℕ) → j < k → k < length l → (stmt l j).at < (stmt l k).at
  pub apart : (j k i : ℕ) → j < k → k < length l → i < length (stmt l j).math → (token (stmt l j) i).at < (stmt l k).at
  -- ends nest: what stands where an earlier statement is still active ends no later
  pub inner : (j k : ℕ) → j < k → k < length l → (stmt l k).at < (stmt l j).end → (stmt l k).end ≤ (stmt l j).end
  -- a statement has three tokens or more; labels, math tokens and two keywords for each statement are tokens
  pub few : 3 * length l ≤ length (tokens t)
  pub counted : before l (length l) + length (labels l) + 2 * length l ≤ length (tokens t)
