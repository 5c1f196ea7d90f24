-- Proofs, A1 of document 02: how the proof of each accepted `$p` ends, in text order.
-- A step is a proof token; incomplete is exactly the token `?`.
use Rattle.std.specs.Prelude.{Bool, true, false, List, [], ◌∷◌, ◌++◌, map, ℕ}
use Prim.Native.Char.{code}
use Rattle.paper.specs.Base.{choose, sameb, gather}
use Rattle.paper.specs.Tokens.{Token}
use Rattle.paper.specs.Statements.{Kind, $c, $v, $d, $f, $e, $a, $p, Statement}
use Rattle.paper.specs.State.{State, nothing, plus, view}
use Rattle.paper.specs.Variables.{formula}
use Rattle.paper.specs.Pairs.{in_order}
use Rattle.paper.specs.Give.{Given, give}
use Rattle.paper.specs.Citations.{Known, known_by}
use Rattle.paper.specs.Steps.{Context, Action, cites, unknown, Ending, right, wrong, incomplete, exceeds, proved}

abbrev pub query : List ℕ
query = code "?" ∷ []

abbrev pub action : Token → Action
action t = choose (sameb t.bytes query) unknown (cites t.bytes)

-- the offset of a `$p`, and how its proof ends
pub record ProofEnd : Type 0 where
  pub at : ℕ
  pub ending : Ending

-- for the `$p` s, where `v` is what is active at it, k the statements that may be named and r the words of the stack
abbrev pub context : ℕ → List Statement → State → Statement → List Known → Context
context r w v s k =
    record { at = s.at; known = k; disjoints = in_order v.disjoints; target = formula w v s; room = r }

unfoldable pub proof_end : ℕ → List Statement → State → Statement → List Known → ProofEnd
proof_end r w v s k = record { at = s.at; ending = proved (context r w v s k) (map action s.proof) }

abbrev pub if_proof : Kind → ProofEnd → List ProofEnd
if_proof $c x = []
if_proof $v x = []
if_proof $d x = []
if_proof $f x = []
if_proof $e x = []
if_proof $a x = []
if_proof $p x = x ∷ []

-- one for each accepted `$p`, which is one that has a frame
abbrev pub proof_ends : ℕ → List Statement → State → Statement → List Known → Given → List ProofEnd
proof_ends r w v s k g = gather (λ f. if_proof s.kind (proof_end r w v s k)) g.frame

-- the statements l one after the other, from the state x on, where the statements of k may be named
unfoldable pub verdicts : ℕ → List Statement → List Statement → State → List Known → List ProofEnd
verdicts r w [] x k = []
verdicts r w (s ∷ l) x k =
    let v = view x s.at in
    let g = give w v s in
    proof_ends r w v s k g ++ verdicts r w l (plus x g.records) (k ++ known_by w v s g)

-- of a text whose statements are w, with r words of stack
unfoldable pub all_verdicts : ℕ → List Statement → List ProofEnd
all_verdicts r w = verdicts r w w nothing []

-- whether the proof exceeds the stack: number 12
abbrev pub exceeding : Ending → Bool
exceeding right = false
exceeding (wrong i) = false
exceeding (incomplete i) = false
exceeding exceeds = true
