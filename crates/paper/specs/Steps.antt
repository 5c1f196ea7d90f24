-- Proofs, A1 of document 02: the steps of one proof, one after the other, over a stack of formulas, the top last.
-- The first fault or `?` decides; a wrong end is the step after the last.
use Rattle.std.specs.Prelude.{Bool, false, List, [], ◌∷◌, ◌++◌, ℕ, suc, ◌+◌, ltb, length}
use Rattle.std.proofs.Math.Option.{Option, none, some}
use Rattle.paper.specs.Base.{choose}
use Rattle.paper.specs.State.{var, Formula, Hyp, float, essential, active_hyp}
use Rattle.paper.specs.Citations.{Citation, of_hyp, of_theorem, Known, cited_as}
use Rattle.paper.specs.Substitution.{same_formula, Move, pushes, fails, applied}

-- ---- the stack is a word a symbol, typecodes too
abbrev pub size : Formula → ℕ
size f = 1 + length f.body

unfoldable pub sizes : List Formula → ℕ
sizes [] = 0
sizes (f ∷ l) = size f + sizes l

-- ---- the proof of a `$p`: its offset, the statements that may be named, the `$d` of its frame, its target, and the words of
-- the stack
pub record Context : Type 0 where
  pub at : ℕ
  pub known : List Known
  pub disjoints : List (List (List ℕ))
  pub target : Formula
  pub room : ℕ

-- a step names a label, or it is `?`
pub data Action : Type 0 where
  cites : List ℕ → Action
  unknown : Action

-- ---- a `$f` or `$e` must be active; it is pushed as it stands
abbrev pub stated : Hyp → Formula
stated (float o e v c) = record { typecode = c; body = var v ∷ [] }
stated (essential o e f) = f

abbrev pub cite : Context → Citation → List Formula → Move
cite c (of_hyp h) st = choose (active_hyp c.at h) (pushes st (stated h)) fails
cite c (of_theorem t) st = applied c.disjoints t st

abbrev pub cite_known : Context → Option Known → List Formula → Move
cite_known c none st = fails
cite_known c (some k) st = cite c k.citation st

-- ---- how a proof ends: right, wrong or incomplete at a step from 1, or with the stack exceeded
pub data Ending : Type 0 where
  right : Ending
  wrong : ℕ → Ending
  incomplete : ℕ → Ending
  exceeds : Ending

-- so many steps are done, with this stack; or the proof has ended
pub data Going : Type 0 where
  goes : ℕ → List Formula → Going
  ends_as : Ending → Going

-- the step i from 1, with st the stack before it: the symbols held before the step and those it pushes must not exceed the
-- room. A wrong step pushes nothing
abbrev pub moves : Context → ℕ → List Formula → Move → Going
moves c i st fails = ends_as (wrong i)
moves c i st (pushes r f) = choose (ltb c.room (sizes st + size f)) (ends_as exceeds) (goes i (r ++ (f ∷ [])))

-- the step after i steps
abbrev pub act : Context → Action → ℕ → List Formula → Going
act c (cites n) i st = moves c (suc i) st (cite_known c (cited_as c.known n) st)
act c unknown i st = ends_as (incomplete (suc i))

unfoldable pub acts : Context → List Action → Going → Going
acts c [] g = g
acts c (x ∷ l) (ends_as e) = ends_as e
acts c (x ∷ l) (goes i st) = acts c l (act c x i st)

-- ---- at the end one entry equals the target
abbrev pub just : List Formula → Formula → Bool
just [] f = false
just (x ∷ []) f = same_formula x f
just (x ∷ y ∷ l) f = false

abbrev pub ending : Context → Going → Ending
ending c (ends_as e) = e
ending c (goes i st) = choose (just st c.target) right (wrong (suc i))

unfoldable pub proved : Context → List Action → Ending
proved c l = ending c (acts c l (goes 0 []))
