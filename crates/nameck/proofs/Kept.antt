-- What was named stays named under every write that keeps the words which say so; and which stores are such writes.
-- Assumes nothing.
use mathlib.Core.Path.{◌≡◌, refl, ap, ◌∙◌}
use mathlib.Core.Logic.{◌≢◌}
use mathlib.Core.List.{List}
use Prim.Native.Nat.{ℕ, ◌+◌, ◌*◌, ◌<◌, ◌≤◌}
use native.Mathlib.Omega.{arith}
use lib.ListN.{length, set, length-set}
use Rattle.paper.specs.Statements.{Statement}
use Rattle.area.specs.Cells.{statement_cell, name_cell, symbol_cell, math_cell, word}
use Rattle.area.proofs.Laws.{word_other}
use Rattle.reader.specs.Rows.{stmt, before, Shape, no_statement}
use Rattle.paper.specs.Base.{gather}
use Rattle.paper.proofs.Gather.{gather_upto}
use lib.Seq.{take-length}
use Rattle.nameck.specs.Atoms.{atoms}
use Rattle.nameck.specs.Named.{Named}
use Rattle.nameck.specs.Kept.{Kept}

-- the shape rests on the statements' words but word 2
pub shape_kept : {t w v : List ℕ} {n : ℕ} {l : List Statement} → length v ≡ length w → ((s c : ℕ) → s < length l → c < 8 → c ≢ 2 → word v (statement_cell s c) ≡ word w (statement_cell s c)) → Shape t w n l → Shape t v n l
shape_kept e k h =
    record {
      rows = h.rows;
      room = omega (arith, h.room, e);
      short = h.short;
      few = h.few;
      maths = h.maths;
      kind = λ s g. k s 0 g (omega arith) (λ q. omega (arith, q)) ∙ h.kind s g;
      at = λ s g. k s 1 g (omega arith) (λ q. omega (arith, q)) ∙ h.at s g;
      from_to = λ s g. rw (k s 3 g (omega arith) (λ q. omega (arith, q)), k s 4 g (omega arith) (λ q. omega (arith, q))) (h.from_to s g);
      within = λ s g. rw (k s 4 g (omega arith) (λ q. omega (arith, q))) (h.within s g);
      first = λ s g. k s 5 g (omega arith) (λ q. omega (arith, q)) ∙ h.first s g;
      count = λ s g. k s 6 g (omega arith) (λ q. omega (arith, q)) ∙ h.count s g;
      end = λ s g. k s 7 g (omega arith) (λ q. omega (arith, q)) ∙ h.end s g;
      part = λ s g. rw (k s 3 g (omega arith) (λ q. omega (arith, q)), k s 4 g (omega arith) (λ q. omega (arith, q))) (h.part s g);
    }

-- the math tokens of the statements have rows in the math column
pub math_row : {t w : List ℕ} {n : ℕ} {l : List Statement} → Shape t w n l → (s i : ℕ) → s < length l → i < length (stmt l s).math → before l s + i < n
unfolding before stmt
math_row {l = l} h s i g k =
    omega (
      arith,
      gather_upto (λ x. x.math) l no_statement s g,
      h.maths,
      ap (λ (r : List Statement). length (gather (λ x. x.math) r)) (take-length l),
    )

pub named_kept : {t w v : List ℕ} {n : ℕ} {l : List Statement} → Kept n w v → Named t w n l → Named t v n l
named_kept {n = n} {l = l} k h =
    let row : (s : ℕ) → s < length l → 3 * s + 3 ≤ n = λ s g. omega (arith, h.shape.few) in
    let atom : (a : ℕ) → a < length (atoms l) → a < n = λ a g. omega (arith, h.few) in
    record {
      shape = shape_kept k.len (λ s c g b d. k.statements s c (row s g) b) h.shape;
      few = h.few;
      label = λ s g e. k.statements s 2 (row s g) (omega arith) ∙ h.label s g e;
      math = λ s i g j. k.maths (before l s + i) (math_row h.shape s i g j) ∙ h.math s i g j;
      start_stop = λ a g. rw (k.names a 0 (atom a g) (omega arith), k.names a 1 (atom a g) (omega arith)) (h.start_stop a g);
      within = λ a g. rw (k.names a 1 (atom a g) (omega arith)) (h.within a g);
      name = λ a g. rw (k.names a 0 (atom a g) (omega arith), k.names a 1 (atom a g) (omega arith)) (h.name a g);
      owns = λ a g. k.symbols a 0 (atom a g) (omega arith) ∙ h.owns a g;
      declares = λ a g. k.symbols a 1 (atom a g) (omega arith) ∙ h.declares a g;
    }

pub kept_none : (n : ℕ) (w : List ℕ) → Kept n w w
kept_none n w =
    record {
      len = refl;
      statements = λ s c g k. refl;
      names = λ a c g k. refl;
      symbols = λ a c g k. refl;
      maths = λ i g. refl;
    }

pub kept_then : {n : ℕ} {w v u : List ℕ} → Kept n w v → Kept n v u → Kept n w u
kept_then x y =
    record {
      len = y.len ∙ x.len;
      statements = λ s c g k. y.statements s c g k ∙ x.statements s c g k;
      names = λ a c g k. y.names a c g k ∙ x.names a c g k;
      symbols = λ a c g k. y.symbols a c g k ∙ x.symbols a c g k;
      maths = λ i g. y.maths i g ∙ x.maths i g;
    }

-- a store into another word of a statement, of a symbol, of a name
pub kept_statement : (n : ℕ) (w : List ℕ) (r b x : ℕ) → 3 * r + 3 ≤ n → 8 ≤ b → b < 12 → Kept n w (set w (statement_cell r b) x)
kept_statement n w r b x h lo hi =
    record {
      len = length-set w (statement_cell r b) x;
      statements = λ s c g k. word_other w (statement_cell r b) (statement_cell s c) x (λ q. omega (arith, q));
      names = λ a c g k. word_other w (statement_cell r b) (name_cell n a c) x (λ q. omega (arith, q));
      symbols = λ a c g k. word_other w (statement_cell r b) (symbol_cell n a c) x (λ q. omega (arith, q));
      maths = λ i g. word_other w (statement_cell r b) (math_cell n i) x (λ q. omega (arith, q));
    }

pub kept_symbol : (n : ℕ) (w : List ℕ) (r b x : ℕ) → r < n → 2 ≤ b → b < 7 → Kept n w (set w (symbol_cell n r b) x)
kept_symbol n w r b x h lo hi =
    record {
      len = length-set w (symbol_cell n r b) x;
      statements = λ s c g k. word_other w (symbol_cell n r b) (statement_cell s c) x (λ q. omega (arith, q));
      names = λ a c g k. word_other w (symbol_cell n r b) (name_cell n a c) x (λ q. omega (arith, q));
      symbols = λ a c g k. word_other w (symbol_cell n r b) (symbol_cell n a c) x (λ q. omega (arith, q));
      maths = λ i g. word_other w (symbol_cell n r b) (math_cell n i) x (λ q. omega (arith, q));
    }

pub kept_until : (n : ℕ) (w : List ℕ) (r x : ℕ) → r < n → Kept n w (set w (name_cell n r 2) x)
kept_until n w r x h =
    record {
      len = length-set w (name_cell n r 2) x;
      statements = λ s c g k. word_other w (name_cell n r 2) (statement_cell s c) x (λ q. omega (arith, q));
      names = λ a c g k. word_other w (name_cell n r 2) (name_cell n a c) x (λ q. omega (arith, q));
      symbols = λ a c g k. word_other w (name_cell n r 2) (symbol_cell n a c) x (λ q. omega (arith, q));
      maths = λ i g. word_other w (name_cell n r 2) (math_cell n i) x (λ q. omega (arith, q));
    }
