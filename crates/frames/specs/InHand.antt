-- The frame of an assertion while it is written: its parts as functions of statement rows, and what the words stand for.
-- `h` are the rows of the hypotheses, `d` those of the `$d`, `vs` the variables, `m` the mandatory ones.
use Rattle.std.specs.Prelude.{◌≡◌, true, List, ◌++◌, map, ℕ, ◌+◌, ◌<◌, ◌≤◌, length, take}
use Rattle.paper.specs.Base.{gather}
use Rattle.paper.specs.Statements.{Statement}
use Rattle.paper.specs.Variables.{member, variables_of}
use Rattle.paper.specs.Expressions.{pool_of, expression, hypotheses, pooled}
use Rattle.paper.specs.Records.{u32, string, expression_bytes, hypothesis_bytes}
use Rattle.area.specs.Cells.{symbol_cell, word}
use Rattle.stream.specs.Wrote.{Wrote}
use Rattle.reader.specs.Rows.{stmt}
use Rattle.nameck.specs.Atoms.{atoms}
use Rattle.sight.specs.Static.{static, row_hyp, stack}
use Rattle.forms.specs.Puts.{StackLength}
use Rattle.forms.specs.Spelling.{Pooled}
use Rattle.forms.specs.HypRows.{HypState}
use Rattle.disjoint.specs.Written.{names_at, disjoint_bytes, Active}
use Rattle.frames.specs.Front.{front, OfAssertion}

-- ---- the bytes of the parts
-- variables and pool; hypotheses and target
unfoldable pub head : List Statement → List ℕ → List (List ℕ) → List (List ℕ) → ℕ → List ℕ
head l h vs m row =
    front (stmt l row) (length vs) (length m)
    ++ (gather string vs ++ string (gather pooled (map (row_hyp l) h) ++ pool_of (static l (stmt l row))))

unfoldable pub middle : List Statement → List ℕ → List (List ℕ) → ℕ → List ℕ
middle l h m row =
    (u32 (length (hypotheses m (map (row_hyp l) h) 0)) ++ gather hypothesis_bytes (hypotheses m (map (row_hyp l) h) 0))
    ++ expression_bytes (expression m (static l (stmt l row)) (length (gather pooled (map (row_hyp l) h))))

-- the record after its length
unfoldable pub body : List Statement → List ℕ → List ℕ → List (List ℕ) → List (List ℕ) → ℕ → List ℕ
body l h d vs m row = head l h vs m row ++ (middle l h m row ++ disjoint_bytes m vs (map (names_at l) d))

-- ---- what the words stand for: es active `$e`, the first k variables mandatory, the first z to be written; and ds active `$d`
pub record InHand (t w : List ℕ) (n : ℕ) (l : List Statement) (h : List ℕ) (vs m : List (List ℕ)) (row es z k : ℕ) : Type 0 where
  pub assertion : OfAssertion t w n l row
  pub hyps : HypState t w n l vs m h k es row
  pub covers : (x : List ℕ) → member x (variables_of (static l (stmt l row))) ≡ true → member x m ≡ true
  pub most : z ≤ length vs
  pub few : length vs ≤ 4095

pub record Whole (t w : List ℕ) (n : ℕ) (l : List Statement) (h : List ℕ) (vs m : List (List ℕ)) (row es ds z k : ℕ) : Type 0 where
  pub hand : InHand t w n l h vs m row es z k
  pub active : Active t w n l vs (length vs) k ds
  pub least : k ≤ z
  pub marks : (a : ℕ) → a < length (atoms l) → word w (symbol_cell n a 6) ≡ 0

pub record SomeInHand (t w : List ℕ) (n row es z k : ℕ) : Type 0 where
  pub l : List Statement
  pub h : List ℕ
  pub vs : List (List ℕ)
  pub m : List (List ℕ)
  pub holds : InHand t w n l h vs m row es z k

pub record SomeWhole (t w : List ℕ) (n row es ds z k : ℕ) : Type 0 where
  pub l : List Statement
  pub h : List ℕ
  pub vs : List (List ℕ)
  pub m : List (List ℕ)
  pub holds : Whole t w n l h vs m row es ds z k

-- ---- what the writers of the parts promise
pub record PutHead (t w : List ℕ) (n row es z k : ℕ) (b b' : List ℕ) (at r : ℕ) : Type 0 where
  pub few : r ≤ at + 562949953421312
  pub sim :
      (l : List Statement) (h : List ℕ) (vs m : List (List ℕ)) → InHand t w n l h vs m row es z k
      → Wrote b b' at r (head l h (take z vs) m row)

pub record PutMiddle (t w : List ℕ) (n row es z k : ℕ) (b b' : List ℕ) (at r : ℕ) : Type 0 where
  pub few : r ≤ at + 4503599627370496
  pub sim :
      (l : List Statement) (h : List ℕ) (vs m : List (List ℕ)) → InHand t w n l h vs m row es z k
      → Wrote b b' at r (middle l h m row)

-- the pool of es active `$e` and of a row is z bytes long
pub record PoolEnd (w : List ℕ) (n es row z : ℕ) : Type 0 where
  pub stack : ℕ
  pub counted : StackLength w n es stack
  pub pooled : Pooled w n row stack z

pub record PutFrame (t w u : List ℕ) (n row es ds z k : ℕ) (b b' : List ℕ) (at r : ℕ) : Type 0 where
  pub words : u ≡ w
  pub few : r ≤ at + 9007199254740992
  pub sim :
      (l : List Statement) (h : List ℕ) (vs m : List (List ℕ)) → Whole t w n l h vs m row es ds z k
      → Wrote b b' at r (u32 (length (body l h (stack w 11 ds) (take z vs) m row)) ++ body l h (stack w 11 ds) (take z vs) m row)
