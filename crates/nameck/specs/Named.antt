-- What the words of the work area say once every statement is named.
-- `t` is the text, `w` the words, `n` is N + 1, `l` the statements.
use Rattle.std.specs.Prelude.{◌≡◌, true, List, ℕ, ◌+◌, ◌-◌, ◌*◌, ◌<◌, ◌≤◌, length, take, drop}
use Rattle.std.proofs.Math.Option.{Option, none, some}
use Rattle.paper.specs.Base.{choose}
use Rattle.paper.specs.Tokens.{Token}
use Rattle.paper.specs.Statements.{labelled, Statement}
use Rattle.paper.specs.Names.{owner, Declared, global}
use Rattle.paper.specs.Checks.{token}
use Rattle.area.specs.Cells.{statement_cell, name_cell, symbol_cell, math_cell, word}
use Rattle.reader.specs.Rows.{stmt, before, Shape}
use Rattle.nameck.specs.Atoms.{atoms, atom_of, name_of}

-- the word for an owner: offset + 1, or 0
abbrev pub owner_word : Option Token → ℕ
owner_word none = 0
owner_word (some x) = x.at + 1

-- the word for a global declaration: twice the offset, and 1 for a `$c` or 2 for a `$v`; or 0
abbrev pub global_word : Option Declared → ℕ
global_word none = 0
global_word (some g) = 2 * g.at + choose g.constant 1 2

pub record Named (t w : List ℕ) (n : ℕ) (l : List Statement) : Type 0 where
  pub shape : Shape t w n l
  -- the names fit their columns beside the statements
  pub few : length (atoms l) + length l < n
  pub label :
      (s : ℕ) → s < length l → labelled (stmt l s).kind ≡ true
      → word w (statement_cell s 2) ≡ atom_of l (stmt l s).label
  pub math :
      (s i : ℕ) → s < length l → i < length (stmt l s).math
      → word w (math_cell n (before l s + i)) ≡ atom_of l (token (stmt l s) i).bytes
  -- the bytes of a name, from word 0 up to word 1
  pub start_stop : (a : ℕ) → a < length (atoms l) → word w (name_cell n a 0) ≤ word w (name_cell n a 1)
  pub within : (a : ℕ) → a < length (atoms l) → word w (name_cell n a 1) ≤ length t
  pub name :
      (a : ℕ) → a < length (atoms l)
      → take (word w (name_cell n a 1) - word w (name_cell n a 0)) (drop (word w (name_cell n a 0)) t) ≡ name_of l a
  pub owns : (a : ℕ) → a < length (atoms l) → word w (symbol_cell n a 0) ≡ owner_word (owner l (name_of l a))
  pub declares : (a : ℕ) → a < length (atoms l) → word w (symbol_cell n a 1) ≡ global_word (global l (name_of l a))

-- after naming, the words of a symbol from 5 on are 0
pub record Fresh (w : List ℕ) (n : ℕ) (l : List Statement) : Type 0 where
  pub symbols : (a c : ℕ) → a < length (atoms l) → 5 ≤ c → c < 7 → word w (symbol_cell n a c) ≡ 0
