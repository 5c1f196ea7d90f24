-- What the check of one token asks of the words, and what it promises for every text and state that they stand for.
-- `a` is the token's atom, `s` the statement's offset, `i` the token's index, `y` the token.
use Rattle.std.specs.Prelude.{◌≡◌, List, [], ◌∷◌, ◌++◌, ℕ, ◌+◌, ◌*◌, ◌<◌, ◌≤◌, ◌^◌, ltb, length, Option, Some, None}
use Rattle.std.proofs.Math.Option.{some}
use Rattle.paper.specs.Base.{gather, keep}
use Rattle.paper.specs.Tokens.{Token}
use Rattle.paper.specs.Statements.{Statement}
use Rattle.paper.specs.Names.{owner, Declared, global}
use Rattle.paper.specs.State.{Nested, State, active_nested, view, sense}
use Rattle.paper.specs.Checks.{token, clash, outer_token, verdict, verdict_diags, records, symbol_token, first_index, disjoint_diags, check_float, check_label}
use Rattle.paper.specs.Records.{diag_record}
use Rattle.area.specs.Cells.{statement_cell, symbol_cell, word}
use Rattle.nameck.specs.Named.{Named}
use Rattle.stream.specs.Wrote.{Wrote}
use Rattle.slots.specs.Kept.{Room, Kept}
use Rattle.slots.specs.Slots.{float_slot, Nests, Floats, Atomic, Apart}
use Rattle.slots.specs.Marks.{Marks}
use Rattle.paper.specs.declared.StatementOffset.{StatementOffset}
use Rattle.paper.specs.declared.StatementRow.{StatementRow}
use Rattle.paper.specs.declared.TokenOffset.{TokenOffset}
use Rattle.checks.specs.Found.{verdict_is}
use Rattle.checks.specs.declared.Breach.{Breach}

pub record Can (w : List ℕ) (n at a : ℕ) : Type 0 where
  pub room : Room w n
  pub atom : a < n
  pub place : at < 2 ^ 59

-- the row of a variable's `$f` is one of a statement
abbrev pub HasFloat : List ℕ → ℕ → ℕ → Type 0
HasFloat w n a = 3 * word w (symbol_cell n a 4) ≤ n

-- ---- kind 5; kinds 5 and 6 of a token of an outermost `$c` or `$v`
pub record Clashes (w out out' : List ℕ) (n at q a s i : ℕ) : Type 0 where
  pub few : q ≤ at + 18
  pub sim :
      {t : List ℕ} {l : List Statement} (y : Token) → Named t w n l → Atomic l a y.bytes
      → Wrote out out' at q (gather diag_record (clash (owner l y.bytes) s i))

pub record Outer (w out out' : List ℕ) (n at q a offset s i : ℕ) : Type 0 where
  pub few : q ≤ at + 36
  pub sim :
      {t : List ℕ} {l : List Statement} (y : Token) → Named t w n l → Atomic l a y.bytes → y.at ≡ offset
      → Wrote out out' at q (gather diag_record (outer_token l s i y))

-- ---- a token of a nested `$v`
pub record Judged (w : List ℕ) (n a offset s : ℕ) (r : Option (Breach × TokenOffset)) : Type 0 where
  pub is :
      {t : List ℕ} {l : List Statement} {st : List Nested} (y : Token) → Named t w n l → Atomic l a y.bytes
      → y.at ≡ offset → Nests w n l st s → verdict_is r ≡ verdict l (keep (active_nested s) st) y

-- what it records, and its diagnostics
pub record NestedOne (t w v out out' : List ℕ) (n at q : ℕ) (l : List Statement) (st : List Nested) (y : Token) (e s i : ℕ) : Type 0 where
  pub nests : Nests v n l (st ++ records l e (keep (active_nested s) st) y) s
  pub wrote :
      Wrote out out' at q
      (gather diag_record (clash (owner l y.bytes) s i ++ verdict_diags (verdict l (keep (active_nested s) st) y) s i))

pub record NestedToken (w v out out' : List ℕ) (n at q a offset e s i : ℕ) : Type 0 where
  pub kept : Kept n 12 12 2 4 w v
  pub few : q ≤ at + 36
  pub sim :
      {t : List ℕ} {l : List Statement} {st : List Nested} (y : Token) → Named t w n l → Apart l → Atomic l a y.bytes
      → y.at ≡ offset → Nests w n l st s → NestedOne t w v out out' n at q l st y e s i

-- ---- a token of a statement that declares nothing: for what it is, the statement's offset serves as well as its own
pub record Sees (t w : List ℕ) (n : ℕ) (l : List Statement) (x : State) (a s : ℕ) (y : Token) : Type 0 where
  pub named : Named t w n l
  pub atomic : Atomic l a y.bytes
  pub alike : (d : Declared) → global l y.bytes ≡ some d → ltb d.at y.at ≡ ltb d.at s
  pub nests : Nests w n l x.nested s

-- of a `$e`, `$a` or `$p`
pub record EapToken (w out out' : List ℕ) (n at q a s i : ℕ) : Type 0 where
  pub few : q ≤ at + 18
  pub sim :
      {t : List ℕ} {l : List Statement} {x : State} {y : Token} (k : ℕ) → Sees t w n l x a s y → Floats w n l x.hyps k s
      → Wrote out out' at q (gather diag_record (symbol_token l (view x s) s i y))

-- it gets no diagnostic, wherever they stand
abbrev pub Good : List ℕ → ℕ → ℕ → ℕ → ℕ → Type 0
Good w n a s i = (out : List ℕ) (at : ℕ) → EapToken w out out n at at a s i

-- of a `$d`, after the tokens d and before the tokens m
pub record DvOne (t w v out out' : List ℕ) (n at q : ℕ) (l : List Statement) (x : State) (d : List Token) (y : Token) (m : List Token) (s i : ℕ) : Type 0 where
  pub marks : Marks v n l (d ++ (y ∷ []))
  pub wrote :
      Wrote out out' at q
      (gather diag_record (disjoint_diags (sense l (view x s) y) (first_index (d ++ (y ∷ m)) y.bytes) s i))

pub record DvToken (w v out out' : List ℕ) (n at q a s i : ℕ) : Type 0 where
  pub kept : Kept n 12 12 6 7 w v
  pub few : q ≤ at + 18
  pub sim :
      {t : List ℕ} {l : List Statement} {x : State} {y : Token} {d : List Token} (m : List Token) → Sees t w n l x a s y
      → Apart l → Marks w n l d → length d ≡ i → DvOne t w v out out' n at q l x d y m s i

-- ---- the offset of a variable's active `$f`
abbrev pub offset_of : List ℕ → Option StatementRow → Option StatementOffset
offset_of w (Some r) = Some (record { 0 = word w (statement_cell r.0 1) })
offset_of w None = None

unfoldable pub earlier_slot : List ℕ → ℕ → ℕ → ℕ → Option StatementOffset
earlier_slot w n a s = offset_of w (float_slot w n a s)

-- the two tokens of a `$f`: typecode b, variable a
pub record Float (w out out' : List ℕ) (n at q b a s : ℕ) : Type 0 where
  pub few : q ≤ at + 36
  pub sim :
      {t : List ℕ} {l : List Statement} {x : State} (k : ℕ) (z : Statement) → k ≤ length l → z.at ≡ s
      → Sees t w n l x b s (token z 0) → Sees t w n l x a s (token z 1) → Floats w n l x.hyps k s
      → Wrote out out' at q (gather diag_record (check_float l (view x s) z))

-- ---- the label a of a statement that bears one
pub record Label (w out out' : List ℕ) (n at q a s : ℕ) : Type 0 where
  pub few : q ≤ at + 18
  pub sim :
      {t : List ℕ} {l : List Statement} (z : Statement) → Named t w n l → Atomic l a z.label → z.at ≡ s
      → Wrote out out' at q (gather diag_record (check_label l z))
