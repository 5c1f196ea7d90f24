-- A13 at work on closed texts: where its conclusion fails without the premise on `$c`, what becomes of a text that follows without
-- white space, diagnostics that are not kept, and texts that meet every premise. Work area and buffers are 1,024 long; frames are full.
use Rattle.std.specs.Prelude.{◌≡◌, List, [], ◌∷◌, ◌++◌, ℕ, length}
use Rattle.paper.specs.Base.{codes}
use Rattle.paper.specs.Reader.{Outcome, refused, given}
use Rattle.paper.specs.Answer.{Answer, done, not_done, Streams}
use Rattle.paper.specs.declared.Setting.TheVariants.{Full}
use Rattle.paper.specs.declared.Refusal.TheVariants.{BadToken}
use Rattle.theorems.specs.Later.{Initial, Followed, Quiet, Undisturbed}
use Rattle.theorems.specs.Examples.{buffer, outcome_of, answer_to}

abbrev pub room : ℕ
room = length buffer

abbrev pub Follows : List ℕ → List ℕ → Type 0
Follows t u = Followed Full t u room room room room room room

abbrev pub frames_out : Outcome Streams → List ℕ
frames_out (refused r) = []
frames_out (given s) = s.frames

abbrev pub diags_out : Outcome Streams → List ℕ
diags_out (refused r) = []
diags_out (given s) = s.diags

-- ---- all premises but that on `$c` hold, and the conclusion does not
pub record Disturbs (t u : List ℕ) : Type 0 where
  pub follows : Follows t u
  pub not_quiet : Quiet t u → ⊥
  pub fails : Undisturbed Full t u room room room room room room → ⊥

abbrev pub variable_first : List ℕ
variable_first = codes "$c c $. ${ $v x $. f $f c x $. $}"

abbrev pub ConstantNeeded : Type 0
ConstantNeeded = Disturbs variable_first (variable_first ++ codes " $c x $.")

-- ---- with white space between, all premises hold; without it the second text is refused
pub record Unspaced (t m : List ℕ) (p : ℕ) : Type 0 where
  pub follows : Follows t (t ++ (32 ∷ m))
  pub is_quiet : Quiet t (t ++ (32 ∷ m))
  pub is_refused : answer_to (t ++ m) ≡ not_done (BadToken p) 1

abbrev pub SpaceLeftOut : Type 0
SpaceLeftOut = Unspaced (codes "$c c $.") (codes "$v x $.") 5

-- ---- all premises hold, and the diagnostics of the first are no initial part of the second's
pub record ToldOtherwise (t u : List ℕ) : Type 0 where
  pub follows : Follows t u
  pub is_quiet : Quiet t u
  pub fails : Initial (diags_out (outcome_of t)) (diags_out (outcome_of u)) → ⊥

abbrev pub told_first : List ℕ
told_first = codes "$c c $. a $a c $. b $a x $."

-- a label that is added clashes with the symbol c
abbrev pub DiagsNotCovered : Type 0
DiagsNotCovered = ToldOtherwise told_first (told_first ++ codes " c $a c $.")

-- ---- all premises hold, and so does the conclusion, computed
pub record Undisturbing (t u : List ℕ) (were are : Answer) : Type 0 where
  pub follows : Follows t u
  pub is_quiet : Quiet t u
  pub before : answer_to t ≡ were
  pub after : answer_to u ≡ are
  pub frames : Initial (frames_out (outcome_of t)) (frames_out (outcome_of u))

abbrev pub group_first : List ℕ
group_first = codes "$c c $. ${ $v x $. f $f c x $. a $a c x $. $}"

-- a comment, another `$c`, and a group whose `$v` names the same variable
abbrev pub GroupAdded : Type 0
GroupAdded =
    Undisturbing group_first (group_first ++ codes " $( more $) $c d $. ${ $v x $. g $f d x $. b $a d x $. $}") (done 106 0 2) (done 212 0 4)

-- an outermost `$v` of the nested variable's name, then a frame of it
abbrev pub VariableAdded : Type 0
VariableAdded = Undisturbing group_first (group_first ++ codes " $v x $. g $f c x $.") (done 106 0 2) (done 135 0 3)

abbrev pub NothingAdded : Type 0
NothingAdded = Undisturbing group_first (group_first ++ codes " ") (done 106 0 2) (done 106 0 2)

pub record LaterExamples : Type 0 where
  pub constant_needed : ConstantNeeded
  pub space_left_out : SpaceLeftOut
  pub diags_not_covered : DiagsNotCovered
  pub group_added : GroupAdded
  pub variable_added : VariableAdded
  pub nothing_added : NothingAdded
