-- Segments as one text, at work on closed segments: three of them, one empty, and where their statements stand and end;
-- and two that are refused though the text that they make is not, since each must close its own.
use Rattle.std.specs.Prelude.{◌≡◌, List, [], ◌∷◌, map, ℕ, ◌+◌}
use Rattle.paper.specs.Base.{codes}
use Rattle.paper.specs.Statements.{Statement, none_end}
use Rattle.paper.specs.Reader.{Outcome, refused, given}
use Rattle.paper.specs.Segments.{base, looking}
use Rattle.paper.specs.declared.Refusal.TheVariants.{OpenText}
use Rattle.theorems.specs.Moved.{moved_statement}
use Rattle.theorems.specs.Joined.{joined, address_in}

abbrev pub statements_in : Outcome (List Statement) → List Statement
statements_in (refused r) = []
statements_in (given l) = l

-- the segments s, the text t that they make, and where each of their statements stands and ends
pub record MakesText (s : List (List ℕ)) (t starts ends : List ℕ) : Type 0 where
  pub text : joined s ≡ t
  pub starts_are : map (λ x. x.at) (statements_in (looking s)) ≡ starts
  pub ends_are : map (λ x. x.end) (statements_in (looking s)) ≡ ends
  pub same : map (moved_statement (address_in s 0)) (statements_in (looking (t ∷ []))) ≡ statements_in (looking s)

abbrev pub Three : Type 0
Three =
    MakesText (codes "$c c $." ∷ [] ∷ codes "${ $v x $. f $f c x $. $}" ∷ []) (codes "$c c $.  ${ $v x $. f $f c x $. $}")
    (0 ∷ (base 2 + 3) ∷ (base 2 + 11) ∷ []) (none_end ∷ (base 2 + 23) ∷ (base 2 + 23) ∷ [])

-- of no segments the text is empty
abbrev pub NoSegments : Type 0
NoSegments = MakesText [] [] [] []

pub record MustClose (s : List (List ℕ)) (p : ℕ) : Type 0 where
  pub is_refused : looking s ≡ refused (OpenText p)
  pub is_read : looking (joined s ∷ []) ≡ given []

abbrev pub GroupOverEdge : Type 0
GroupOverEdge = MustClose (codes "${" ∷ codes "$}" ∷ []) 2

pub record JoinedExamples : Type 0 where
  pub three : Three
  pub no_segments : NoSegments
  pub group_over_edge : GroupOverEdge
