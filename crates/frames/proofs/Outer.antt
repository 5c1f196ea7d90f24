-- The walk over the active `$d` in two parts: the lowest entries of the stack, and then the others one by one.
-- Assumes nothing.
use mathlib.Core.Path.{◌≡◌, sym, ◌∙◌}
use mathlib.Core.List.{List}
use Prim.Native.Nat.{ℕ, ◌+◌, ◌<◌, ◌≤◌}
use native.Mathlib.Omega.{arith}
use lib.ListN.{length, get_or}
use Rattle.paper.specs.Statements.{Statement}
use Rattle.area.specs.Cells.{statement_cell, word}
use Rattle.sight.specs.Static.{stack}
use Rattle.sight.specs.Numbered.{Scans, CanScanAll, ScansAll}
use Rattle.sight.proofs.Stacks.{InvAll, stack_at, all_step}
use Rattle.slots.specs.Stack.{Deep}

pub deep_stack : {w : List ℕ} {n k c d i : ℕ} → CanScanAll w n k c d i → Deep w n c d
deep_stack {w} {n} {k} {c} {d} x =
    let s = x.some.holds.named.shape in
    record {
      room = record { room = s.room; small = x.some.holds.small };
      column = x.column;
      depth = omega (arith, s.few, x.depth);
      entry = λ j h. omega (arith, stack_at w c d j h, x.rows j h, s.few);
    }

-- the rows of the first r entries are rows of all
lower : (w : List ℕ) (c r d : ℕ) (l : List Statement) → r ≤ d → ((j : ℕ) → j < d → get_or (stack w c d) j 0 < length l)
    → (j : ℕ) → j < r → get_or (stack w c r) j 0 < length l
lower w c r d l h rows j g =
    let e : get_or (stack w c r) j 0 ≡ get_or (stack w c d) j 0 = stack_at w c r j g ∙ sym (stack_at w c d j (omega arith)) in
    rw e (rows j (omega arith))

pub can_lower : {w : List ℕ} {n k c r d i : ℕ} → r ≤ d → CanScanAll w n k c d i → CanScanAll w n k c r i
can_lower {w} {c = c} {r} {d} h x =
    record {
      some = x.some;
      rows = lower w c r d x.some.l h x.rows;
      depth = omega (arith, x.depth);
      column = x.column;
      first = x.first;
    }

lower_walked : {w v : List ℕ} {n k x c r d i : ℕ} → r ≤ d → ScansAll w v n k x c r i → InvAll w v n k x c d i r
lower_walked {w} {c = c} {r} {d} h s =
    record { kept = s.kept; upto = h; sim = λ t l vs z rows. s.sim t l vs z (lower w c r d l h rows) }

-- ---- the others, one by one: for every walk over the first r entries that led to the words w₁
pub record Onward (w₁ w : List ℕ) (n x v c d i r k : ℕ) : Type 0 where
  pub sim : (w₀ : List ℕ) (y : ℕ) → CanScanAll w₀ n y c d i → ScansAll w₀ w₁ n y x c r i → InvAll w₀ w n y v c d i k

pub onward_start : (w : List ℕ) (n x c d i r : ℕ) → r ≤ d → Onward w w n x x c d i r r
onward_start w n x c d i r h = record { sim = λ w₀ y can s. lower_walked h s }

pub onward_step :
    {w₁ w u : List ℕ} {n x v z c d i r k row : ℕ} → Onward w₁ w n x v c d i r k → k < d → row ≡ word w (statement_cell k c)
    → Scans w u n v z row i → Onward w₁ u n x z c d i r (k + 1)
onward_step o h e s = record { sim = λ w₀ y can a. all_step (o.sim w₀ y can a) can h e s }
