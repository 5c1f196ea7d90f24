-- Scope rules: what one statement gives, and the statements one after the other.
-- A statement is accepted when it got no diagnostic; only then does it record, and only then has it a frame.
use Rattle.std.specs.Prelude.{List, [], ◌∷◌, map, ℕ}
use Rattle.paper.specs.Base.{choose}
use Rattle.paper.specs.Statements.{Kind, $c, $v, $d, $f, $e, $a, $p, Statement, outermost}
use Rattle.paper.specs.State.{Nested, Hyp, float, essential, Disjoint, State, nothing, plus, view}
use Rattle.paper.specs.Checks.{Diag, diag, token, check_label, check_outer, nested_records, nested_diags, check_float, check_expression, check_disjoint}
use Rattle.paper.specs.Variables.{formula}
use Rattle.paper.specs.Frames.{Frame, stub, frame_of}

-- the diagnostics, what is recorded, and a frame or none
pub record Given : Type 0 where
  pub diags : List Diag
  pub records : State
  pub frame : List Frame

abbrev pub only : List Diag → Given
only d = record { diags = d; records = nothing; frame = [] }

-- by its diagnostics: accepted, with what it records and its frame; or not
abbrev pub accept : List Diag → State → List Frame → Given
accept [] r f = record { diags = []; records = r; frame = f }
accept (x ∷ d) r f = only (x ∷ d)

-- by the diagnostic of its label: checked further, or not
abbrev pub unless : List Diag → Given → Given
unless [] g = g
unless (x ∷ d) g = only (x ∷ d)

abbrev pub with_nested : List Nested → State
with_nested l = record { nested = l; hyps = []; disjoints = [] }

abbrev pub with_hyp : Hyp → State
with_hyp h = record { nested = []; hyps = h ∷ []; disjoints = [] }

abbrev pub with_disjoint : Disjoint → State
with_disjoint d = record { nested = []; hyps = []; disjoints = d ∷ [] }

-- A nested `$c` declares nothing and gives kind 13 once, nothing else.
unfoldable pub give_c : List Statement → Statement → Given
give_c w s = choose (outermost s) (only (check_outer w s)) (only (diag 13 s.at 0 0))

-- a nested `$v` records token by token, also where another token of it got a diagnostic
unfoldable pub give_v : List Statement → State → Statement → Given
give_v w v s =
    choose (outermost s) (only (check_outer w s))
    (record {
      diags = nested_diags w s.at s.end s.math 0 v.nested;
      records = with_nested (nested_records w s.end s.math v.nested);
      frame = [];
    })

unfoldable pub give_d : List Statement → State → Statement → Given
give_d w v s =
    accept (check_disjoint w v s)
    (with_disjoint (record { end = s.end; names = map (λ t. t.bytes) s.math })) []

unfoldable pub give_f : List Statement → State → Statement → Given
give_f w v s =
    unless (check_label w s)
    (accept (check_float w v s)
    (with_hyp (float s.at s.end (token s 1).bytes (token s 0).bytes))
    (stub s.at s.end s.label (token s 0).bytes (token s 1).bytes ∷ []))

unfoldable pub give_e : List Statement → State → Statement → Given
give_e w v s =
    unless (check_label w s)
    (accept (check_expression w v s) (with_hyp (essential s.at s.end (formula w v s))) [])

-- k is the kind of the frame record
unfoldable pub give_assertion : ℕ → List Statement → State → Statement → Given
give_assertion k w v s =
    unless (check_label w s)
    (accept (check_expression w v s) nothing (frame_of k s v (formula w v s) ∷ []))

abbrev pub give_by : Kind → List Statement → State → Statement → Given
give_by $c w v s = give_c w s
give_by $v w v s = give_v w v s
give_by $d w v s = give_d w v s
give_by $f w v s = give_f w v s
give_by $e w v s = give_e w v s
give_by $a w v s = give_assertion 2 w v s
give_by $p w v s = give_assertion 3 w v s

-- `w` is the statements of the whole text, `v` what is active at s
unfoldable pub give : List Statement → State → Statement → Given
give w v s = give_by s.kind w v s

-- what each of the statements l gives, from the state x on
unfoldable pub gives : List Statement → List Statement → State → List Given
gives w [] x = []
gives w (s ∷ l) x =
    let g = give w (view x s.at) s in
    g ∷ gives w l (plus x g.records)

unfoldable pub all_given : List Statement → List Given
all_given w = gives w w nothing
