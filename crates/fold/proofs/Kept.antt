-- What a frame leaves in the words, and what the checks leave of the numbers: the fold goes on from there.
-- Assumes nothing.
use mathlib.Core.Path.{◌≡◌, ◌∙◌}
use mathlib.Core.List.{List, []}
use Prim.Native.Nat.{ℕ, ◌*◌, ◌<◌, ◌≤◌}
use native.Mathlib.Omega.{arith}
use lib.ListN.{length}
use Rattle.paper.specs.Statements.{Statement}
use Rattle.area.specs.Cells.{statement_cell, symbol_cell, word}
use Rattle.nameck.specs.Atoms.{atoms}
use Rattle.sight.specs.Numbered.{Numbered, Renumbered}
use Rattle.slots.specs.Kept.{Kept}
use Rattle.slots.proofs.Kept.{kept_then, kept_wide, named_kept, room_kept}
use Rattle.slots.proofs.Slots.{nests_kept, floats_kept}
use Rattle.slots.proofs.Marks.{marks_kept}
use Rattle.slots.proofs.Stacks.{stack_kept}
use Rattle.scopeck.specs.declared.Scope.{Scope}
use Rattle.scopeck.specs.Scope.{Stands}
use Rattle.scopeck.specs.Fold as checks
use Rattle.scopeck.proofs.Whole.{InvRows}
use Rattle.fold.specs.Turn.{Turn}
use Rattle.fold.specs.Fold.{Before}

-- a numbering leaves all words but the buckets and the numbers
pub renumbered_kept : {n : ℕ} {w v : List ℕ} → Renumbered n w v → Kept n 12 12 5 6 w v
renumbered_kept {n} r =
    record {
      len = r.len;
      low = λ s j h a b. r.low (statement_cell s j) (omega arith);
      high = λ s j h a b. r.low (statement_cell s j) (omega arith);
      names = λ i j h a. r.low (_) (omega arith);
      left = λ i j h a b. r.symbols i j h a;
      right = λ i j h a b. let e : j ≡ 6 = omega arith in rw e (r.marks i h);
      maths = λ i. r.high (_) (omega arith);
    }

-- with the same numbers no variable is numbered still
pub numbered_same : {w v : List ℕ} {n : ℕ} {l : List Statement} → length (atoms l) ≤ n → ((a : ℕ) → a < n → word v (symbol_cell n a 5) ≡ word w (symbol_cell n a 5))
    → Numbered w n l [] → Numbered v n l []
numbered_same f same x =
    record {
      entry = λ k h. absurd (omega arith);
      place = x.place;
      number = λ a h. same a (omega arith) ∙ x.number a h;
      counted = x.counted;
    }

-- ---- after the checks of a statement its frame can be looked at
pub turn_of : {t w v o o' : List ℕ} {n : ℕ} {l : List Statement} {st s : Scope} {k : ℕ}
    → Before t w n l st k → checks.Steps t w v o o' n st s k → Turn t v n l s k
turn_of b y =
    let c = b.checks in
    let a = y.sim c in
    record {
      named = named_kept (omega arith) (omega arith) y.kept c.named;
      facts = c.facts;
      room = room_kept y.kept c.room;
      inside = c.inside;
      stands = a.stands;
      marked = a.marked;
      free = numbered_same (omega (arith, c.named.few)) y.numbers b.unframed.free;
    }

-- ---- after its frame the words stand for what they stood for
stands_kept : {w v : List ℕ} {n : ℕ} {l : List Statement} {st : Scope} {k o : ℕ}
    → length (atoms l) ≤ n → 3 * k ≤ n → Kept n 12 12 5 6 w v → Stands w n l st k o → Stands v n l st k o
stands_kept f h m x =
    record {
      nests = nests_kept f (omega arith) m x.nests;
      floats = floats_kept f h (omega arith) (λ i g. m.left i 4 g (omega arith) (omega arith)) m x.floats;
      marks = marks_kept f (λ i g. m.right i 6 g (omega arith) (omega arith)) x.marks;
      ess = stack_kept (λ i g. m.low i 10 (omega (arith, x.essentials)) (omega arith) (omega arith)) x.ess;
      dis = stack_kept (λ i g. m.low i 11 (omega (arith, x.disjoints)) (omega arith) (omega arith)) x.dis;
      essentials = x.essentials;
      disjoints = x.disjoints;
      place = x.place;
    }

pub rows_renumbered : {t w₀ w v out₀ out : List ℕ} {n rows : ℕ} {st : Scope} {k : ℕ}
    → Renumbered n w v → InvRows t w₀ w out₀ out n rows st k → InvRows t w₀ v out₀ out n rows st k
rows_renumbered r x =
    let m = renumbered_kept r in
    record {
      kept = kept_then x.kept (kept_wide 8 12 2 7 (omega arith) (omega arith) (omega arith) (omega arith) m);
      upto = x.upto;
      len = x.len;
      sim = λ {l} b.
          let f = x.sim b in
          record {
            from = f.from;
            ahead = f.ahead;
            stands = stands_kept (omega (arith, b.named.few)) (omega (arith, x.upto, b.count, b.named.shape.few)) m f.stands;
            marked = λ s h. m.low s 8 (omega (arith, x.upto, b.count, b.named.shape.few)) (omega arith) (omega arith) ∙ f.marked s h;
            told = f.told;
          };
    }
