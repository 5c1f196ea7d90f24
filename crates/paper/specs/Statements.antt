-- The reader: statements, groups and ends.
-- The address of a statement is the offset of its first token; its end is the offset of the `$}` closing its
-- innermost group, or none at the outermost level (4,294,967,295).
use Rattle.std.specs.Prelude.{◌≡◌, refl, Bool, true, false, List, [], ◌∷◌, ℕ, eqb}
use Rattle.paper.specs.Tokens.{Token}

pub data Kind : Type 0 where
  $c $v $d $f $e $a $p : Kind

-- those that bear a label
abbrev pub labelled : Kind → Bool
labelled $c = false
labelled $v = false
labelled $d = false
labelled $f = true
labelled $e = true
labelled $a = true
labelled $p = true

-- `label` is empty for a kind that bears none, `proof` for any kind but `$p`
pub record Statement : Type 0 where
  pub kind : Kind
  pub at : ℕ
  pub end : ℕ
  pub label : List ℕ
  pub math : List Token
  pub proof : List Token

abbrev pub none_end : ℕ
none_end = 4294967295

unfoldable pub outermost : Statement → Bool
outermost s = eqb s.end none_end

-- what stands in a text: `${`, `$}`, and statements whose end is not known yet
pub data Item : Type 0 where
  opens : ℕ → Item
  closes : ℕ → Item
  states : Statement → Item

abbrev pub top : List ℕ → ℕ
top [] = none_end
top (q ∷ l) = q

abbrev pub tail : List ℕ → List ℕ
tail [] = []
tail (q ∷ l) = l

abbrev pub onto : Item → List ℕ → List ℕ
onto (opens p) l = tail l
onto (closes q) l = q ∷ l
onto (states s) l = l

-- the `$}` in some items, or in what follows them, whose `${` stands further left, innermost first
unfoldable pub closers : List Item → List ℕ → List ℕ
closers [] l = l
closers (x ∷ i) l = onto x (closers i l)

-- `$}` at 7, `${` at 9, `$}` at 12 and at 15
pub closers_shown : closers (closes 7 ∷ opens 9 ∷ closes 12 ∷ closes 15 ∷ []) [] ≡ 7 ∷ 15 ∷ []
unfolding closers
closers_shown = refl

abbrev pub ended : ℕ → Statement → Statement
ended q s =
    record { kind = s.kind; at = s.at; end = q; label = s.label; math = s.math; proof = s.proof }

abbrev pub with_end : Item → ℕ → List Statement → List Statement
with_end (opens p) q r = r
with_end (closes p) q r = r
with_end (states s) q r = ended q s ∷ r

-- the statements, each with its end
unfoldable pub ends : List Item → List ℕ → List Statement
ends [] l = []
ends (x ∷ i) l = with_end x (top (closers i l)) (ends i l)

-- `${ s ${ $} $} s`
pub ends_shown : (s : Statement) → ends (opens 0 ∷ states s ∷ opens 9 ∷ closes 12 ∷ closes 15 ∷ states s ∷ []) [] ≡ ended 15 s ∷ ended none_end s ∷ []
unfolding closers ends
ends_shown s = refl
