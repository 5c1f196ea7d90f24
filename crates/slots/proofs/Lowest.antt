-- The lowest entries of a stack whose ends do not rise: those with no end are the outermost ones.
-- Assumes nothing.
use mathlib.Core.Path.{◌≡◌, refl, sym, ap, ◌∙◌}
use mathlib.Core.Logic.{◌≢◌}
use mathlib.Core.Bool.{Bool, true, false}
use mathlib.Core.List.{List, [], ◌∷◌, ◌++◌, append-nil}
use Prim.Native.Nat.{ℕ, zero, suc, ◌+◌, ◌<◌, ◌≤◌}
use native.Mathlib.Omega.{arith}
use lib.Dec.{ltb}
use borrow.Author.Tests.{eq-eqb, ne_eqb, ltb-true, ltb-false}
use Rattle.paper.specs.Base.{keep}
use Rattle.paper.specs.Statements.{none_end, outermost}
use Rattle.paper.proofs.Tests.{split}
use Rattle.paper.proofs.Lists.{keep_append}
use Rattle.area.specs.Cells.{statement_cell, word}
use Rattle.reader.specs.Rows.{stmt}
use Rattle.sight.specs.Static.{stack}
use Rattle.slots.specs.Stack.{end_at}
use Rattle.slots.specs.Global.{row_outer, GlobalDv}

-- a test that holds of the first r entries and of no other
lowest :
    (p : ℕ → Bool) (w : List ℕ) (c r d : ℕ) → r ≤ d
    → ((j : ℕ) → j < r → p (word w (statement_cell j c)) ≡ true)
    → ((j : ℕ) → r ≤ j → j < d → p (word w (statement_cell j c)) ≡ false)
    → stack w c r ≡ keep p (stack w c d)
unfolding stack keep
lowest p w c zero zero h holds fails = refl
lowest p w c (suc r) zero h holds fails = absurd (omega arith)
lowest p w c r (suc d) h holds fails =
    split (ltb d r)
    (λ e.
    let q : r ≡ suc d = omega (arith, ltb-true d r e) in
    rw (q, keep_append p (stack w c d) (word w (statement_cell d c) ∷ []), holds d (omega (arith, q)))
    (ap (λ m. m ++ (word w (statement_cell d c) ∷ [])) (lowest p w c d d (omega arith) (λ j g. holds j (omega (arith, q, g))) (λ j g f. absurd (omega (arith, g, f))))))
    (λ e.
    let q : r ≤ d = ltb-false d r e in
    rw (keep_append p (stack w c d) (word w (statement_cell d c) ∷ []), fails d q (omega arith), append-nil (keep p (stack w c d)))
    (lowest p w c r d q holds (λ j g f. fails j g (omega (arith, f)))))

-- ---- the walk from the bottom
pub record InvGlobal (w : List ℕ) (d k : ℕ) : Type 0 where
  pub upto : k ≤ d
  pub outer : (j : ℕ) → j < k → end_at w 11 j ≡ none_end

pub global_start : (w : List ℕ) (d : ℕ) → InvGlobal w d 0
global_start w d = record { upto = omega arith; outer = λ j h. absurd (omega arith) }

pub global_step : {w : List ℕ} {d k : ℕ} → InvGlobal w d k → k < d → end_at w 11 k ≡ none_end → InvGlobal w d (k + 1)
global_step {w} {d} {k} x h e =
    record {
      upto = omega arith;
      outer = λ j g.
          split (ltb j k) (λ q. x.outer j (ltb-true j k q))
          (λ q. let i : j ≡ k = omega (arith, ltb-false j k q, g) in rw i e);
    }

-- all entries from the r-th on have an end, if the r-th has
pub global_end : {w : List ℕ} {n d r : ℕ} → InvGlobal w d r → (r < d → end_at w 11 r ≢ none_end) → GlobalDv w n d r
unfolding end_at outermost
global_end {w} {n} {d} {r} x ended =
    record {
      few = x.upto;
      sim = λ {t} {l} {rs} {k} {o} b f m s.
          let row : ℕ → ℕ = λ j. word w (statement_cell j 11) in
          let ends : (j : ℕ) → j < d → word w (statement_cell (row j) 7) ≡ (stmt l (row j)).end =
          λ j g. b.shape.end (row j) (omega (arith, s.rows j g, m)) in
          lowest (row_outer l) w 11 r d x.upto
          (λ j g. eq-eqb (stmt l (row j)).end none_end (sym (ends j (omega (arith, g, x.upto))) ∙ x.outer j g))
          (λ j g h.
          ne_eqb (stmt l (row j)).end none_end
          (λ e. ended (omega (arith, g, h)) (ends r (omega (arith, g, h)) ∙ omega (arith, e, s.falls r j g h, (f.shaped (row r) (omega (arith, s.rows r (omega (arith, g, h)), m))).last))))
          ∙ ap (keep (row_outer l)) s.holds;
    }
