-- Proofs, A1 of document 02: what a step may name. Each step names a statement standing earlier; only accepted statements
-- may be named. A label means its first bearer, the only one that can be accepted.
use Rattle.std.specs.Prelude.{Bool, true, List, [], ◌∷◌, ◌++◌, map, ℕ}
use Rattle.std.proofs.Math.Option.{Option}
use Rattle.paper.specs.Base.{sameb, keep, find, gather}
use Rattle.paper.specs.Statements.{Statement}
use Rattle.paper.specs.State.{Formula, Hyp, float, essential, State}
use Rattle.paper.specs.Variables.{formula, member, mandatory}
use Rattle.paper.specs.Pairs.{in_order, Pair, pairs}
use Rattle.paper.specs.Frames.{Frame, stub, full}
use Rattle.paper.specs.Give.{Given}

-- an assertion to a step that names it: its mandatory variables, its hypotheses by offset, its mandatory pairs (numbers of
-- those variables) and its target
pub record Theorem : Type 0 where
  pub variables : List (List ℕ)
  pub hyps : List Hyp
  pub pairs : List Pair
  pub target : Formula

-- Hypotheses are the active `$e` and the active `$f` of each mandatory variable.
abbrev pub mandatory_hyp : List (List ℕ) → Hyp → Bool
mandatory_hyp m (float o e v c) = member v m
mandatory_hyp m (essential o e f) = true

-- the assertion of formula f, where `v` is what is active at it
unfoldable pub theorem : State → Formula → Theorem
theorem v f =
    let m = mandatory v.hyps f in
    record {
      variables = m;
      hyps = keep (mandatory_hyp m) v.hyps;
      pairs = pairs m (in_order v.disjoints);
      target = f;
    }

-- what is named: an accepted `$f` or `$e`, or an accepted `$a` or `$p`
pub data Citation : Type 0 where
  of_hyp : Hyp → Citation
  of_theorem : Theorem → Citation

-- a statement that may be named, with its label
pub record Known : Type 0 where
  pub label : List ℕ
  pub citation : Citation

abbrev pub known : List ℕ → Citation → Known
known n c = record { label = n; citation = c }

-- the frame of a `$f` is a stub; that of an assertion is full
abbrev pub by_frame : Theorem → Frame → List Citation
by_frame t (stub o e n c v) = []
by_frame t (full f) = of_theorem t ∷ []

-- by what the statement s gave: a hypothesis that it recorded, or an assertion that has a frame; nothing if it is rejected
unfoldable pub known_by : List Statement → State → Statement → Given → List Known
known_by w v s g =
    map (known s.label)
    (map of_hyp g.records.hyps ++ gather (by_frame (theorem v (formula w v s))) g.frame)

-- what a label names, among the statements that may be named
unfoldable pub cited_as : List Known → List ℕ → Option Known
cited_as k n = find (λ x. sameb x.label n) k
