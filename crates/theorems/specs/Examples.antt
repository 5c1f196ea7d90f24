-- Demand 3 at work on closed texts: where its conclusion fails without one half of its premise, and where it holds.
-- The work area and both buffers are 1,024 long; frames are full.
use Rattle.std.specs.Prelude.{◌≡◌, List, ℕ, length, replicate}
use Rattle.paper.specs.Base.{codes}
use Rattle.paper.specs.Statements.{Statement}
use Rattle.paper.specs.Reader.{Outcome, refused, given}
use Rattle.paper.specs.Answer.{Answer, done, Streams, number, outcome, answer}
use Rattle.paper.specs.declared.Setting.TheVariants.{Full}
use Rattle.theorems.specs.Groups.{Group, statements, blanked, LabelsApart, SymbolsApart}
use Rattle.theorems.specs.TakenOut.{streams_without}
use Rattle.theorems.specs.Demand3.{Blanked}

abbrev pub buffer : List ℕ
buffer = replicate 1024 0

abbrev pub outcome_of : List ℕ → Outcome Streams
outcome_of t = outcome Full t (length buffer) (length buffer) (length buffer)

abbrev pub answer_to : List ℕ → Answer
answer_to t = answer Full t (length buffer) (length buffer) (length buffer)

-- ---- all of the theorem's premises but one half of the last hold, and its conclusion does not
pub record Fails (Half : List Statement → ℕ → ℕ → Type 0) (t : List ℕ) (p q : ℕ) : Type 0 where
  pub done : number (answer_to t) ≡ 0
  pub group : Group t p q
  pub half : Half (statements group) p q
  pub fails : Blanked Full t buffer buffer buffer p q → ⊥

abbrev pub label_text : List ℕ
label_text = codes "${ a $e b $. $} a $e b $."

abbrev pub LabelsNeeded : Type 0
LabelsNeeded = Fails SymbolsApart label_text 0 13

abbrev pub symbol_text : List ℕ
symbol_text = codes "$c a $. ${ a $e a $. $}"

abbrev pub SymbolsNeeded : Type 0
SymbolsNeeded = Fails LabelsApart symbol_text 8 21

-- ---- the streams with the records taken out are those of the text with the group blanked, computed
abbrev pub without : ℕ → ℕ → Outcome Streams → Outcome Streams
without p q (refused r) = refused r
without p q (given s) = given (streams_without p q s)

pub record Holds (t : List ℕ) (p q : ℕ) (were are : Answer) : Type 0 where
  pub group : Group t p q
  pub before : answer_to t ≡ were
  pub after : answer_to (blanked t p q) ≡ are
  pub streams : outcome_of (blanked t p q) ≡ without p q (outcome_of t)

abbrev pub nested_text : List ℕ
nested_text = codes "$c c $. $v x $. f $f c x $. ${ h $e c x $. ${ $d x x $. i $e c x $. $} a $a c x $. $} b $a c x $."

-- a group in a group, and the group around it
abbrev pub InnerGroup : Type 0
InnerGroup = Holds nested_text 43 68 (done 216 18 3) (done 216 0 3)

abbrev pub OuterGroup : Type 0
OuterGroup = Holds nested_text 28 83 (done 216 18 3) (done 106 0 2)

-- a nested `$v` that shadows nothing
abbrev pub variable_text : List ℕ
variable_text = codes "$c c $. ${ $v x $. f $f c x $. a $a c x $. $} ${ $v x $. g $f c x $. $}"

abbrev pub NestedVariable : Type 0
NestedVariable = Holds variable_text 8 43 (done 135 0 3) (done 29 0 1)

-- a group with a comment at either end, in which stands the other's brace; and an empty group
abbrev pub comment_text : List ℕ
comment_text = codes "$c c $. ${ $( $} $) a $a c $. $( ${ $) $} ${ $} b $a c $."

abbrev pub CommentGroup : Type 0
CommentGroup = Holds comment_text 8 39 (done 96 0 2) (done 48 0 1)

abbrev pub EmptyGroup : Type 0
EmptyGroup = Holds comment_text 42 45 (done 96 0 2) (done 96 0 2)

pub record Examples : Type 0 where
  pub labels_needed : LabelsNeeded
  pub symbols_needed : SymbolsNeeded
  pub inner_group : InnerGroup
  pub outer_group : OuterGroup
  pub nested_variable : NestedVariable
  pub comment_group : CommentGroup
  pub empty_group : EmptyGroup
