-- What the words say of the `$f` in a row, and its stub frame.
-- For every statement list that the words stand for.
use mathlib.Core.Path.{◌≡◌, ap, ◌∙◌}
use mathlib.Core.Bool.{true}
use mathlib.Core.List.{List}
use Prim.Native.Nat.{ℕ, ◌+◌, ◌-◌, ◌*◌, ◌<◌, ◌≤◌}
use native.Mathlib.Omega.{arith}
use lib.ListN.{length, drop, length-take, length-drop}
use Rattle.paper.specs.Statements.{labelled, Statement}
use Rattle.paper.specs.Checks.{token}
use Rattle.paper.specs.Variables.{member}
use Rattle.paper.specs.Frames.{stub}
use Rattle.paper.specs.Records.{frame_record}
use Rattle.area.specs.Cells.{statement_cell, name_cell, math_cell, word}
use Rattle.stream.specs.Wrote.{Wrote}
use Rattle.stream.proofs.Wrote.{wrote_as}
use Rattle.reader.specs.Rows.{stmt, before}
use Rattle.facts.specs.Facts.{Facts, Shaped}
use Rattle.nameck.specs.Atoms.{atoms, atom_of}
use Rattle.nameck.specs.Named.{Named}
use Rattle.nameck.proofs.Atoms.{label_in, token_in, atom_below, name_of_atom}
use Rattle.nameck.proofs.Kept.{math_row}
use Rattle.forms.specs.Words.{name_bytes, atom_at, NameWords}
use Rattle.frames.specs.Stub.{OfFloat, CanStub, stub_of, Stubs}

-- ---- a word that is the atom of a name
pub record Spelt (t w : List ℕ) (n a : ℕ) (x : List ℕ) : Type 0 where
  pub words : NameWords t w n a
  pub is : name_bytes t w n a ≡ x

pub spelt :
    {t w : List ℕ} {n a : ℕ} {l : List Statement} {x : List ℕ} → Named t w n l → Facts t l → n ≤ 16777217
    → member x (atoms l) ≡ true → a ≡ atom_of l x → Spelt t w n a x
unfolding name_bytes
spelt {t} {w} {n} {a} {l} {x} h f small occurs e =
    rw e
    (record {
      words =
          record {
            room = h.shape.room;
            small = small;
            row = omega (arith, h.few, below);
            order = h.start_stop (atom_of l x) below;
            within = h.within (atom_of l x) below;
            short = f.short;
          };
      is = h.name (atom_of l x) below ∙ name_of_atom l x occurs;
    })
  where
    below : atom_of l x < length (atoms l)
    below = atom_below l x occurs

pub short : {t w : List ℕ} {n a : ℕ} → NameWords t w n a → length (name_bytes t w n a) ≤ 16777216
unfolding name_bytes
short {t} {w} {n} {a} h =
    let s = word w (name_cell n a 0) in
    let e = word w (name_cell n a 1) in
    omega (arith, length-take (e - s) (drop s t), length-drop s t, h.within, h.short)

-- ---- the words of a `$f`
pub record FloatWords (t w : List ℕ) (n row : ℕ) (s : Statement) : Type 0 where
  pub room : 16 * n ≤ length w
  pub small : n ≤ 16777217
  pub fits : 3 * row + 3 ≤ n
  pub at : word w (statement_cell row 1) ≡ s.at
  pub end : word w (statement_cell row 7) ≡ s.end
  pub maths : word w (statement_cell row 5) + 1 < n
  pub label : Spelt t w n (word w (statement_cell row 2)) s.label
  pub typecode : Spelt t w n (atom_at w n row 0) (token s 0).bytes
  pub variable : Spelt t w n (atom_at w n row 1) (token s 1).bytes

pub float_words : {t w : List ℕ} {n row : ℕ} {l : List Statement} → OfFloat t w n l row → FloatWords t w n row (stmt l row)
unfolding atom_at
float_words {t} {w} {n} {row} {l} h =
    record {
      room = h.named.shape.room;
      small = h.small;
      fits = omega (arith, h.named.shape.few, h.here);
      at = h.named.shape.at row h.here;
      end = h.named.shape.end row h.here;
      maths = rw first (math_row h.named.shape row 1 h.here (omega (arith, two)));
      label = spelt h.named h.facts h.small (label_in l row h.here bears) (h.named.label row h.here bears);
      typecode = symbol 0 (omega (arith, two));
      variable = symbol 1 (omega (arith, two));
    }
  where
    shape : Shaped t (stmt l row)
    shape = h.facts.shaped row h.here

    two : length (stmt l row).math ≡ 2
    two = shape.two h.kind

    bears : labelled (stmt l row).kind ≡ true
    bears = ap labelled h.kind

    first : word w (statement_cell row 5) ≡ before l row
    first = h.named.shape.first row h.here

    symbol : (i : ℕ) → i < length (stmt l row).math → Spelt t w n (atom_at w n row i) (token (stmt l row) i).bytes
    symbol i k =
        spelt h.named h.facts h.small (token_in l row i h.here k)
        (ap (λ f. word w (math_cell n (f + i))) first ∙ h.named.math row i h.here k)

pub stub_words : {t w : List ℕ} {n row : ℕ} (c : CanStub t w n row) → FloatWords t w n row (stmt c.l row)
stub_words c = float_words c.holds

-- ---- what is written
pub stubs :
    {t w b b' x y z : List ℕ} {n row at r start end i j k : ℕ} → CanStub t w n row → start ≡ word w (statement_cell row 1)
    → end ≡ word w (statement_cell row 7) → i ≡ word w (statement_cell row 2)
    → j ≡ atom_at w n row 0 → k ≡ atom_at w n row 1
    → x ≡ name_bytes t w n i → y ≡ name_bytes t w n j → z ≡ name_bytes t w n k
    → (r ≡ at + 26 + length x + length y + length z) × Wrote b b' at r (frame_record (stub start end x y z))
    → Stubs t w n row b b' at r
unfolding stub_of
stubs {t} {w} {b} {b'} {x} {y} {z} {n} {row} {at} {r} {start} {end} {i} {j} {k} can s e p q u xs ys zs put =
    record {
      few = few_bytes;
      sim = λ l h.
          let f = float_words h in
          let a : start ≡ (stmt l row).at = s ∙ f.at in
          let o : end ≡ (stmt l row).end = e ∙ f.end in
          let c : x ≡ (stmt l row).label = xs ∙ ap (name_bytes t w n) p ∙ f.label.is in
          let d : y ≡ (token (stmt l row) 0).bytes = ys ∙ ap (name_bytes t w n) q ∙ f.typecode.is in
          let g : z ≡ (token (stmt l row) 1).bytes = zs ∙ ap (name_bytes t w n) u ∙ f.variable.is in
          wrote_as put.1 (rw (a, o, c, d, g));
    }
  where
    few_bytes : r ≤ at + 67108864
    few_bytes =
        let f = stub_words can in
        let c : length x ≤ 16777216 = rw (xs, p) (short f.label.words) in
        let d : length y ≤ 16777216 = rw (ys, q) (short f.typecode.words) in
        let g : length z ≤ 16777216 = rw (zs, u) (short f.variable.words) in
        omega (arith, put.0, c, d, g)

pub stub_requires :
    {t w x y z : List ℕ} {n row at i j k : ℕ} → CanStub t w n row → at < 576460752303423488 → i ≡ word w (statement_cell row 2)
    → j ≡ atom_at w n row 0 → k ≡ atom_at w n row 1
    → x ≡ name_bytes t w n i → y ≡ name_bytes t w n j → z ≡ name_bytes t w n k
    → at + length x + length y + length z < 1152921504606846976
stub_requires {t} {w} {x} {y} {z} {n} {row} {at} can h p q u xs ys zs =
    let f = stub_words can in
    let c : length x ≤ 16777216 = rw (xs, p) (short f.label.words) in
    let d : length y ≤ 16777216 = rw (ys, q) (short f.typecode.words) in
    let g : length z ≤ 16777216 = rw (zs, u) (short f.variable.words) in
    omega (arith, c, d, g)
