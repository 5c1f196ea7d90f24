-- Offsets moved by a function: statements, and all that statements give. Scope does not see offsets, only their order:
-- where they are moved by a rising function, what the statements give is moved by it and is otherwise the same.
use Rattle.std.specs.Prelude.{◌≡◌, Bool, false, List, map, ℕ, ◌<◌, eqb}
use Rattle.paper.specs.Base.{choose, or}
use Rattle.paper.specs.Tokens.{Token}
use Rattle.paper.specs.Statements.{Statement, none_end}
use Rattle.paper.specs.State.{Nested, Hyp, float, essential, Disjoint, State}
use Rattle.paper.specs.Checks.{Diag}
use Rattle.paper.specs.Expressions.{Hypothesis, of_float, of_essential}
use Rattle.paper.specs.Frames.{Frame, stub, full}
use Rattle.paper.specs.Give.{Given, all_given}
use Rattle.paper.proofs.Alls.{All}

module _ (f : ℕ → ℕ) where
  -- an end that is none stays none
  abbrev pub moved_end : ℕ → ℕ
  moved_end e = choose (eqb e none_end) none_end (f e)

  abbrev pub moved_token : Token → Token
  moved_token t = record { at = f t.at; bytes = t.bytes }

  abbrev pub moved_statement : Statement → Statement
  moved_statement s =
      record {
        kind = s.kind;
        at = f s.at;
        end = moved_end s.end;
        label = s.label;
        math = map moved_token s.math;
        proof = map moved_token s.proof;
      }

  -- ---- what is recorded
  abbrev pub moved_nested : Nested → Nested
  moved_nested x = record { name = x.name; at = f x.at; end = moved_end x.end }

  abbrev pub moved_hyp : Hyp → Hyp
  moved_hyp (float o e v c) = float (f o) (moved_end e) v c
  moved_hyp (essential o e x) = essential (f o) (moved_end e) x

  abbrev pub moved_disjoint : Disjoint → Disjoint
  moved_disjoint d = record { end = moved_end d.end; names = d.names }

  abbrev pub moved_state : State → State
  moved_state x =
      record {
        nested = map moved_nested x.nested;
        hyps = map moved_hyp x.hyps;
        disjoints = map moved_disjoint x.disjoints;
      }

  -- ---- diagnostics: `other` is an offset in kinds 1, 5, 6, 11 and 12, in kind 8 an index, and else 0
  abbrev pub other_is_offset : ℕ → Bool
  other_is_offset k = or (eqb k 1) (or (eqb k 5) (or (eqb k 6) (or (eqb k 11) (eqb k 12))))

  abbrev pub moved_diag : Diag → Diag
  moved_diag d =
      record {
        kind = d.kind;
        statement = f d.statement;
        index = d.index;
        other = choose (other_is_offset d.kind) (f d.other) d.other;
      }

  -- ---- frames
  abbrev pub moved_hypothesis : Hypothesis → Hypothesis
  moved_hypothesis (of_float o v c) = of_float (f o) v c
  moved_hypothesis (of_essential o x) = of_essential (f o) x

  abbrev pub moved_frame : Frame → Frame
  moved_frame (stub o e n c v) = stub (f o) (moved_end e) n c v
  moved_frame (full x) =
      full
      (record {
        kind = x.kind;
        at = f x.at;
        label = x.label;
        variables = x.variables;
        mandatory = x.mandatory;
        pool = x.pool;
        hyps = map moved_hypothesis x.hyps;
        target = x.target;
        pairs = x.pairs;
        rows = x.rows;
      })

  abbrev pub moved_given : Given → Given
  moved_given g =
      record {
        diags = map moved_diag g.diags;
        records = moved_state g.records;
        frame = map moved_frame g.frame;
      }

-- ---- the theorem: f rises, keeps 0, and stays below none on offsets below n
pub record Rises (f : ℕ → ℕ) (n : ℕ) : Type 0 where
  pub first : f 0 ≡ 0
  pub rising : (a b : ℕ) → a < b → f a < f b
  pub below : (a : ℕ) → a < n → f a < none_end

-- an end below n, or none
abbrev pub Ended : ℕ → ℕ → Type 0
Ended n e = eqb e none_end ≡ false → e < n

pub record PlacedBelow (n : ℕ) (s : Statement) : Type 0 where
  pub at : s.at < n
  pub end : Ended n s.end

abbrev pub Moves : Type 0
Moves =
    (f : ℕ → ℕ) (n : ℕ) → Rises f n → (w : List Statement) → All (PlacedBelow n) w
    → all_given (map (moved_statement f) w) ≡ map (moved_given f) (all_given w)
