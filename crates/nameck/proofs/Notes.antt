-- An owner or a global declaration noted takes what is done one step on.
-- Assumes nothing.
use mathlib.Core.Path.{◌≡◌, ◌∙◌}
use mathlib.Core.Logic.{◌≢◌}
use mathlib.Core.Bool.{Bool, true, false}
use mathlib.Core.List.{List, [], ◌∷◌, ◌++◌, append-nil}
use Prim.Native.Nat.{ℕ, ◌+◌, ◌*◌, ◌<◌, ◌≤◌}
use native.Mathlib.Omega.{arith}
use lib.ListN.{length}
use Rattle.paper.specs.Base.{choose}
use Rattle.paper.specs.Tokens.{Token}
use Rattle.paper.specs.Names.{Declared}
use Rattle.paper.specs.Variables.{member, sights, index}
use Rattle.paper.proofs.Names.{index_lt, Distinct, distinct_none, distinct_sights}
use Rattle.area.specs.Cells.{statement_cell, name_cell, bucket_cell, symbol_cell, math_cell, Only}
use Rattle.std.specs.Prelude.{Option, Some, None}
use Rattle.nameck.specs.declared.naming.Sort.{Sort}
use Rattle.nameck.specs.declared.naming.Sort.TheVariants.{Constant, Variable}
use Rattle.nameck.specs.Table.{noted, globally}
use Rattle.nameck.specs.Naming.{Done, declared_as, Column, owner_by, global_by, Progress}
use Rattle.nameck.proofs.Kept.{shape_kept}
use Rattle.nameck.proofs.Column.{noted_only, noted_other, column_kept, column_note, owner_more, global_more}
use Rattle.nameck.proofs.Progress.{labels_kept, maths_kept, spans_kept, names_kept, blank_kept, links_kept, progress_count}

-- ---- an owner or a declaration noted, for a name that was seen
abbrev pub with_notes : Done → List Token → List Declared → Done
with_notes x b d =
    record {
      of = x.of;
      labels = x.labels;
      maths = x.maths;
      names = x.names;
      bearers = b;
      declared = d;
    }

module _ {t w : List ℕ} {n m : ℕ} {x : Done} (h : Progress t w n x m) (a c u : ℕ) (f : a < n) (g : c < 2) where
  note_only : Only (symbol_cell n a c) (symbol_cell n a c + 1) w (noted w (symbol_cell n a c) u)
  note_only = noted_only w (symbol_cell n a c) u

  other_column : (d : ℕ) (z : List ℕ → ℕ) → d < 2 → d ≢ c → Column w n d (sights x.names []) z → Column (noted w (symbol_cell n a c) u) n d (sights x.names []) z
  other_column d z k q y =
      column_kept (omega (arith, progress_count h, h.spans.rows))
      (λ i b. noted_other w (symbol_cell n a c) u (symbol_cell n i d) (λ p. q (omega (arith, p)))) y

  noted_progress : (b : List Token) (d : List Declared) → Column (noted w (symbol_cell n a c) u) n 0 (sights x.names []) (owner_by b) → Column (noted w (symbol_cell n a c) u) n 1 (sights x.names []) (global_by d) → Progress t (noted w (symbol_cell n a c) u) n (with_notes x b d) m
  noted_progress b d y z =
      record {
        shape = shape_kept note_only.len (λ r i k l j. note_only.below (statement_cell r i) (omega (arith, h.shape.few))) h.shape;
        text = h.text;
        labels = labels_kept (λ r k. note_only.below (statement_cell r 2) (omega (arith, h.shape.few))) h.labels;
        maths = maths_kept (λ i. note_only.above (math_cell n i) (omega arith)) h.maths;
        spans = spans_kept note_only.len (λ i j k l. note_only.below (name_cell n i j) (omega (arith, h.spans.rows))) h.spans;
        names = names_kept t w (noted w (symbol_cell n a c) u) n m (λ i j k l. note_only.below (name_cell n i j) (omega (arith, h.spans.rows))) ∙ h.names;
        owners = y;
        globals = z;
        linked = links_kept h (λ i j k l. note_only.below (name_cell n i j) (omega arith)) (λ i k. note_only.below (bucket_cell n i) (omega arith)) (λ i k. noted_other w (symbol_cell n a c) u (symbol_cell n i 2) (λ q. omega (arith, q)));
        blank = blank_kept (λ i j k l p. noted_other w (symbol_cell n a c) u (symbol_cell n i j) (λ q. omega (arith, q))) h.blank;
      }

module _ {t w : List ℕ} {n m : ℕ} {x : Done} (h : Progress t w n x m) {a : ℕ} (b : List ℕ) (k : member b (sights x.names []) ≡ true) (e : a ≡ index (sights x.names []) b) where
  row_free : index (sights x.names []) b < n
  row_free = omega (arith, index_lt b (sights x.names []) k, progress_count h, h.spans.rows)

  few_rows : length (sights x.names []) ≤ n
  few_rows = omega (arith, progress_count h, h.spans.rows)

  distinct : Distinct (sights x.names [])
  distinct = distinct_sights x.names [] distinct_none

  pub progress_owner : (o : ℕ) → Progress t (noted w (symbol_cell n a 0) (o + 1)) n (with_notes x (x.bearers ++ (record { at = o; bytes = b } ∷ [])) x.declared) m
  progress_owner o =
      let y : Token = record { at = o; bytes = b } in
      rw e
      (noted_progress h (index (sights x.names []) b) 0 (o + 1) row_free (omega arith) (x.bearers ++ (y ∷ [])) x.declared
      (column_note b (o + 1) h.spans.room (omega arith) few_rows distinct k h.owners (owner_more x.bearers y))
      (other_column h (index (sights x.names []) b) 0 (o + 1) row_free (omega arith) 1 (global_by x.declared) (omega arith) (λ q. omega (arith, q)) h.globals))

  global_noted : (o : ℕ) (z : Bool) → Progress t (noted w (symbol_cell n a 1) (2 * o + choose z 1 2)) n (with_notes x x.bearers (x.declared ++ (record { name = b; at = o; constant = z } ∷ []))) m
  global_noted o z =
      let y : Declared = record { name = b; at = o; constant = z } in
      let u = 2 * o + choose z 1 2 in
      rw e
      (noted_progress h (index (sights x.names []) b) 1 u row_free (omega arith) x.bearers (x.declared ++ (y ∷ []))
      (other_column h (index (sights x.names []) b) 1 u row_free (omega arith) 0 (owner_by x.bearers) (omega arith) (λ q. omega (arith, q)) h.owners)
      (column_note b u h.spans.room (omega arith) few_rows distinct k h.globals (global_more x.declared y)))

  pub progress_global : (c : Option Sort) (o : ℕ)
      → Progress t (globally c w n a o) n (with_notes x x.bearers (x.declared ++ declared_as c (record { at = o; bytes = b } ∷ []))) m
  unfolding globally
  progress_global None o = rw append-nil h
  progress_global (Some Constant) o = global_noted o true
  progress_global (Some Variable) o = global_noted o false
