-- What a walk over the math tokens of a statement asks of the words, and what it promises for every text and state.
-- `f` is the row of the first token in the math column, `c` the number of tokens, `s` the statement's offset, `k` its row.
use Rattle.std.specs.Prelude.{◌≡◌, List, [], ◌++◌, map, ℕ, ◌+◌, ◌-◌, ◌*◌, ◌<◌, ◌≤◌, ◌^◌, length}
use Rattle.paper.specs.Base.{gather, keep}
use Rattle.paper.specs.Statements.{Statement}
use Rattle.paper.specs.Names.{declarations}
use Rattle.paper.specs.State.{Nested, State, active_nested, view}
use Rattle.paper.specs.Checks.{token, check_outer, nested_records, nested_diags, check_expression, check_disjoint}
use Rattle.paper.specs.Records.{diag_record}
use Rattle.area.specs.Cells.{math_cell, word}
use Rattle.reader.specs.Rows.{stmt, before}
use Rattle.facts.specs.Facts.{Facts}
use Rattle.nameck.specs.Named.{Named}
use Rattle.stream.specs.Wrote.{Wrote}
use Rattle.token.specs.Words.{move}
use Rattle.slots.specs.Kept.{Room, Kept}
use Rattle.slots.specs.Slots.{Nests, Floats, Atomic, Apart}
use Rattle.slots.specs.Marks.{Atoms, Marks}
use Rattle.checks.specs.Tokens.{HasFloat}
use Rattle.checks.specs.Visible.{visible_from, Calm}

pub record Walk (w : List ℕ) (n at f c : ℕ) : Type 0 where
  pub room : Room w n
  pub atoms : Atoms w n f c
  pub place : at < 2 ^ 58

abbrev pub HasFloats : List ℕ → ℕ → ℕ → ℕ → Type 0
HasFloats w n f c = (j : ℕ) → j < c → HasFloat w n (word w (math_cell n (f + j)))

-- the k-th statement of a text that the words name
pub record Here (t w : List ℕ) (n : ℕ) (l : List Statement) (k f c s : ℕ) : Type 0 where
  pub named : Named t w n l
  pub facts : Facts t l
  pub inside : k < length l
  pub first : f ≡ before l k
  pub count : c ≡ length (stmt l k).math
  pub at : s ≡ (stmt l k).at
  pub atomic : (j : ℕ) → j < c → Atomic l (word w (math_cell n (f + j))) (token (stmt l k) j).bytes

-- ---- `$e`, `$a`, `$p`
pub record WalkEap (w out out' : List ℕ) (n at q f c s : ℕ) : Type 0 where
  pub few : q ≤ at + 18 * c
  pub sim :
      {t : List ℕ} {l : List Statement} (x : State) (j k : ℕ) → Here t w n l k f c s → declarations (stmt l k) ≡ []
      → Nests w n l x.nested s → Floats w n l x.hyps j s
      → Wrote out out' at q (gather diag_record (check_expression l (view x s) (stmt l k)))

-- no token gets a diagnostic, wherever they stand
abbrev pub AllGood : List ℕ → ℕ → ℕ → ℕ → ℕ → Type 0
AllGood w n f c s = (out : List ℕ) (at : ℕ) → WalkEap w out out n at at f c s

-- ---- `$d`
pub record WalkedDv (w v out out' : List ℕ) (n at q : ℕ) (l : List Statement) (x : State) (k s : ℕ) : Type 0 where
  pub marks : Marks v n l (stmt l k).math
  pub wrote : Wrote out out' at q (gather diag_record (check_disjoint l (view x s) (stmt l k)))

pub record WalkDv (w v out out' : List ℕ) (n at q f c s : ℕ) : Type 0 where
  pub kept : Kept n 12 12 6 7 w v
  pub few : q ≤ at + 18 * c
  pub sim :
      {t : List ℕ} {l : List Statement} (x : State) (k : ℕ) → Here t w n l k f c s → declarations (stmt l k) ≡ [] → Apart l
      → Nests w n l x.nested s → Marks w n l [] → WalkedDv w v out out' n at q l x k s

-- the marks are taken away again
pub record CheckedDv (w v out out' : List ℕ) (n at q f c s : ℕ) : Type 0 where
  pub kept : Kept n 12 12 6 7 w v
  pub few : q ≤ at + 18 * c
  pub sim :
      {t : List ℕ} {l : List Statement} (x : State) (k : ℕ) → Here t w n l k f c s → declarations (stmt l k) ≡ [] → Apart l
      → Nests w n l x.nested s → Marks w n l []
      → Marks v n l [] × Wrote out out' at q (gather diag_record (check_disjoint l (view x s) (stmt l k)))

-- ---- `$f`: the last two of c tokens
pub record LastTwo (w : List ℕ) (n f c a b : ℕ) : Type 0 where
  pub typecode : 2 ≤ c → a ≡ word w (math_cell n (f + (c - 2)))
  pub variable : 1 ≤ c → b ≡ word w (math_cell n (f + (c - 1)))

-- ---- over the part q of the text, which starts at offset b: its tokens outside comments are the math tokens
pub record WalkPart (w q : List ℕ) (n at f b : ℕ) : Type 0 where
  pub walk : Walk w n at f (length (visible_from q 0))
  pub short : b + length q ≤ 16777216
  pub calm : Calm q

pub record HerePart (t w q : List ℕ) (n : ℕ) (l : List Statement) (k f b s : ℕ) : Type 0 where
  pub here : Here t w n l k f (length (visible_from q 0)) s
  pub math : (stmt l k).math ≡ map (move b) (visible_from q 0)

-- outermost `$c`, `$v`
pub record WalkOuter (w q out out' : List ℕ) (n at r f b s : ℕ) : Type 0 where
  pub few : r ≤ at + 36 * length (visible_from q 0)
  pub sim :
      {t : List ℕ} {l : List Statement} (k : ℕ) → HerePart t w q n l k f b s
      → Wrote out out' at r (gather diag_record (check_outer l (stmt l k)))

-- nested `$v` with end e
pub record WalkedNested (w v out out' : List ℕ) (n at r : ℕ) (l : List Statement) (st : List Nested) (k e s : ℕ) : Type 0 where
  pub nests : Nests v n l (st ++ nested_records l e (stmt l k).math (keep (active_nested s) st)) s
  pub wrote :
      Wrote out out' at r (gather diag_record (nested_diags l s e (stmt l k).math 0 (keep (active_nested s) st)))

pub record WalkNested (w v q out out' : List ℕ) (n at r f b e s : ℕ) : Type 0 where
  pub kept : Kept n 12 12 2 4 w v
  pub few : r ≤ at + 36 * length (visible_from q 0)
  pub sim :
      {t : List ℕ} {l : List Statement} (st : List Nested) (k : ℕ) → HerePart t w q n l k f b s → s < e → Apart l
      → Nests w n l st s → WalkedNested w v out out' n at r l st k e s
