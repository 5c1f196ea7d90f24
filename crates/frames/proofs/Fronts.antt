-- What the words say of the assertion in a row, and the front of its record.
-- For every statement list that the words stand for.
use mathlib.Core.Path.{◌≡◌, refl, ap, ◌∙◌}
use mathlib.Core.Bool.{true}
use mathlib.Core.List.{List}
use Prim.Native.Nat.{ℕ, ◌+◌, ◌-◌, ◌*◌, ◌<◌, ◌≤◌}
use native.Mathlib.Omega.{arith}
use lib.ListN.{length}
use Rattle.paper.specs.Statements.{Kind, $c, $v, $d, $f, $e, $a, $p, labelled, Statement}
use Rattle.paper.specs.Records.{u16, u32, string}
use Rattle.area.specs.Cells.{statement_cell, word}
use Rattle.stream.specs.Wrote.{Wrote}
use Rattle.stream.proofs.Wrote.{wrote_then, wrote_as}
use Rattle.reader.specs.Rows.{stmt, kind_number}
use Rattle.nameck.proofs.Atoms.{label_in}
use Rattle.forms.specs.Words.{name_bytes}
use Rattle.frames.specs.Front.{record_kind, front, OfAssertion, CanFront, Fronts}
use Rattle.frames.proofs.Floats.{Spelt, spelt}

-- an assertion bears a label, and its kind in the words is that of its record and 4
record Assertion (k : Kind) : Type 0 where
  pub bears : labelled k ≡ true
  pub number : kind_number k ≡ record_kind k + 4

assertion : (k : Kind) → 0 < record_kind k → Assertion k
assertion $c h = absurd (omega (arith, h))
assertion $v h = absurd (omega (arith, h))
assertion $d h = absurd (omega (arith, h))
assertion $f h = absurd (omega (arith, h))
assertion $e h = absurd (omega (arith, h))
assertion $a h = record { bears = refl; number = refl }
assertion $p h = record { bears = refl; number = refl }

pub record FrontWords (t w : List ℕ) (n row : ℕ) (s : Statement) : Type 0 where
  pub room : 16 * n ≤ length w
  pub small : n ≤ 16777217
  pub fits : 3 * row + 3 ≤ n
  pub kind : word w (statement_cell row 0) ≡ record_kind s.kind + 4
  pub at : word w (statement_cell row 1) ≡ s.at
  pub label : Spelt t w n (word w (statement_cell row 2)) s.label

pub front_words : {t w : List ℕ} {n row : ℕ} {l : List Statement} → OfAssertion t w n l row → FrontWords t w n row (stmt l row)
front_words {t} {w} {n} {row} {l} h =
    let a : Assertion (stmt l row).kind = assertion (stmt l row).kind h.kind in
    record {
      room = h.named.shape.room;
      small = h.small;
      fits = omega (arith, h.named.shape.few, h.here);
      kind = h.named.shape.kind row h.here ∙ a.number;
      at = h.named.shape.at row h.here;
      label = spelt h.named h.facts h.small (label_in l row h.here a.bears) (h.named.label row h.here a.bears);
    }

pub can_front : {t w : List ℕ} {n row : ℕ} (c : CanFront t w n row) → FrontWords t w n row (stmt c.l row)
can_front c = front_words c.holds

pub fronts :
    {t w b b₁ b₂ b₃ b₄ b₅ : List ℕ} {n row at p q r s z v m kind offset label : ℕ} → CanFront t w n row
    → kind ≡ word w (statement_cell row 0) → offset ≡ word w (statement_cell row 1) → label ≡ word w (statement_cell row 2)
    → (p ≡ at + 2) × Wrote b b₁ at p (u16 (kind - 4)) → (q ≡ p + 4) × Wrote b₁ b₂ p q (u32 offset)
    → (r ≤ q + 16777220) × Wrote b₂ b₃ q r (string (name_bytes t w n label)) → (s ≡ r + 2) × Wrote b₃ b₄ r s (u16 v)
    → (z ≡ s + 2) × Wrote b₄ b₅ s z (u16 m) → Fronts t w n row v m b b₅ at z
unfolding front
fronts {t} {w} {n = n} {row = row} {v = v} {m = m} {kind = kind} {offset = offset} {label = label} can k o e f g h i j =
    record {
      few = omega (arith, f.0, g.0, h.0, i.0, j.0);
      sim = λ l y.
          let x = front_words y in
          let a : kind - 4 ≡ record_kind (stmt l row).kind = omega (arith, k, x.kind) in
          let c : offset ≡ (stmt l row).at = o ∙ x.at in
          let d : name_bytes t w n label ≡ (stmt l row).label = ap (name_bytes t w n) e ∙ x.label.is in
          wrote_as (wrote_then f.1 (wrote_then g.1 (wrote_then h.1 (wrote_then i.1 j.1))))
          (rw (← a, ← c, ← d));
    }
