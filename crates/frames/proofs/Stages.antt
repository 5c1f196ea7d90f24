-- The stages of an assertion's frame: three walks number its variables, the record is written, the numbers are taken away.
-- For all that the words stand for.
use mathlib.Core.Path.{◌≡◌, refl, sym, ap, ◌∙◌}
use mathlib.Core.List.{List, [], ◌++◌, map}
use Prim.Native.Nat.{ℕ, ◌<◌, ◌≤◌}
use native.Mathlib.Omega.{arith}
use lib.ListN.{length, get_or, take}
use lib.Seq.{take-length}
use borrow.Author.Tests.{lt-ltb, le-ltb}
use Rattle.std.specs.Prelude.{None, Some}
use Rattle.paper.specs.Statements.{Statement}
use Rattle.paper.specs.Variables.{mandatory}
use Rattle.paper.specs.Frames.{frame_as}
use Rattle.paper.specs.Records.{u32, frame_record}
use Rattle.paper.specs.declared.Setting.{Setting}
use Rattle.paper.specs.declared.Setting.TheVariants as setting
use Rattle.paper.proofs.Names.{grown_length}
use Rattle.stream.proofs.Wrote.{wrote_as}
use Rattle.reader.specs.Rows.{stmt}
use Rattle.sight.specs.Static.{static, row_hyp, stack}
use Rattle.sight.specs.Numbered.{scanned_rows, Holds, SomeHold, CanScan, Scans, CanScanAll, ScansAll, Forgets}
use Rattle.sight.proofs.Numbering.{renumbered_then}
use Rattle.sight.proofs.Stacks.{stack_length}
use Rattle.frames.specs.InHand.{body, Whole, SomeWhole, PutFrame}
use Rattle.frames.specs.Assert.{frame_at, needed, Framing, SomeFraming, drawn_of, built, over, Frames}
use Rattle.frames.proofs.Body.{frame_body, short_body}
use Rattle.frames.proofs.Scanned.{all_at, rows_grown}
use Rattle.frames.proofs.Parts.{grown_front}
use Rattle.frames.proofs.Assembled.{stack_renumbered, needed_is, all_variables, crowded_is, whole_of}

-- ---- what is written is the definition's record
frame_is :
    {t w : List ℕ} {n : ℕ} {l : List Statement} {h : List ℕ} {row es ds : ℕ} → (f : Framing t w n l h row es ds)
    → frame_record (frame_at l h (stack w 11 ds) row)
    ≡ u32 (length (body l h (stack w 11 ds) (scanned_rows l 0 (stack w 11 ds) (needed l h row)) (needed l h row) row))
    ++ body l h (stack w 11 ds) (scanned_rows l 0 (stack w 11 ds) (needed l h row)) (needed l h row) row
unfolding frame_at needed
frame_is {w = w} {l = l} {h = h} {row = row} {ds = ds} f =
    frame_body l h (stack w 11 ds) _ (needed l h row) row f.ordered (needed_def l h row) (sym (all_variables f))
  where
    needed_def : (l : List Statement) (h : List ℕ) (row : ℕ) → needed l h row ≡ mandatory (map (row_hyp l) h) (static l (stmt l row))
    needed_def l h row = refl

-- the same of the short frame
short_is :
    {t w : List ℕ} {n : ℕ} {l : List Statement} {h : List ℕ} {row es ds : ℕ} → (f : Framing t w n l h row es ds)
    → frame_record (frame_as setting.Short (frame_at l h (stack w 11 ds) row))
    ≡ u32 (length (body l h (stack w 11 ds) (needed l h row) (needed l h row) row)) ++ body l h (stack w 11 ds) (needed l h row) (needed l h row) row
unfolding frame_at needed
short_is {w = w} {l = l} {h = h} {row = row} {ds = ds} f = short_body l h (stack w 11 ds) (needed l h row) row f.ordered refl

-- how many variables are written
pub drawn_least : (c : Setting) {v m : ℕ} → m ≤ v → m ≤ drawn_of c v m
drawn_least setting.Short h = omega arith
drawn_least setting.Full h = h

pub drawn_most : (c : Setting) {v m : ℕ} → m ≤ v → drawn_of c v m ≤ v
drawn_most setting.Short h = h
drawn_most setting.Full h = omega arith

-- ---- the first walk: the active `$e`
begun : {t w : List ℕ} {n : ℕ} {l : List Statement} {h : List ℕ} {row es ds : ℕ} → Framing t w n l h row es ds → Holds t w n l [] 0
begun f =
    record { named = f.assertion.named; small = f.assertion.small; numbered = f.none_numbered; count = refl }

pub can_first : {t w : List ℕ} {n row es ds : ℕ} → SomeFraming t w n row es ds → CanScanAll w n 0 10 es 1
can_first {t} c =
    record {
      some = record { t = t; l = c.l; vs = []; holds = begun c.holds };
      rows = c.holds.inside;
      depth = c.holds.deep;
      column = omega arith;
      first = omega arith;
    }

module _ {t w w₁ : List ℕ} {n row es ds a : ℕ} (s₁ : ScansAll w w₁ n 0 a 10 es 1) where
  first_holds :
      (l : List Statement) (h : List ℕ) → Framing t w n l h row es ds → Holds t w₁ n l (scanned_rows l 1 (stack w 10 es) []) a
  first_holds l h f = s₁.sim t l [] (begun f) f.inside

  -- ---- the second: the assertion
  pub can_second : SomeFraming t w n row es ds → CanScan w₁ n a row 1
  can_second c =
      record {
        some =
            record {
              t = t;
              l = c.l;
              vs = scanned_rows c.l 1 (stack w 10 es) [];
              holds = first_holds c.l c.h c.holds;
            };
        here = c.holds.assertion.here;
        first = omega arith;
      }

  module _ {w₂ : List ℕ} {m : ℕ} (s₂ : Scans w₁ w₂ n a m row 1) where
    second_holds : (l : List Statement) (h : List ℕ) → Framing t w n l h row es ds → Holds t w₂ n l (needed l h row) m
    second_holds l h f =
        rw (needed_is f) at (s₂.sim t l (scanned_rows l 1 (stack w 10 es) []) (first_holds l h f) f.assertion.here)

    same_stack : (l : List Statement) (h : List ℕ) → Framing t w n l h row es ds → stack w₂ 11 ds ≡ stack w 11 ds
    same_stack l h f =
        stack_renumbered 11 ds (renumbered_then s₁.kept s₂.kept) (omega arith) (omega (arith, f.assertion.named.shape.few, f.depth))

    -- ---- the third: the active `$d`
    rows_inside :
        (l : List Statement) (h : List ℕ) → Framing t w n l h row es ds → (j : ℕ) → j < ds → get_or (stack w₂ 11 ds) j 0 < length l
    rows_inside l h f j q = rw (same_stack l h f) (all_at f.apart j (omega (arith, stack_length w 11 ds, q))).here

    pub can_third : SomeFraming t w n row es ds → CanScanAll w₂ n m 11 ds 0
    can_third c =
        record {
          some =
              record {
                t = t;
                l = c.l;
                vs = needed c.l c.h row;
                holds = second_holds c.l c.h c.holds;
              };
          rows = rows_inside c.l c.h c.holds;
          depth = c.holds.depth;
          column = omega arith;
          first = omega arith;
        }

    module _ {w₃ : List ℕ} {v : ℕ} (s₃ : ScansAll w₂ w₃ n m v 11 ds 0) where
      third_holds :
          (l : List Statement) (h : List ℕ) → Framing t w n l h row es ds
          → Holds t w₃ n l (scanned_rows l 0 (stack w 11 ds) (needed l h row)) v
      third_holds l h f =
          rw (same_stack l h f) at (s₃.sim t l (needed l h row) (second_holds l h f) (rows_inside l h f))

      pub numbered_hold : SomeFraming t w n row es ds → SomeHold w₃ n v
      numbered_hold c =
          record {
            t = t;
            l = c.l;
            vs = scanned_rows c.l 0 (stack w 11 ds) (needed c.l c.h row);
            holds = third_holds c.l c.h c.holds;
          }

      mandatory_few : (l : List Statement) (h : List ℕ) → Framing t w n l h row es ds → m ≤ v
      mandatory_few l h f =
          omega (arith, (second_holds l h f).count, (third_holds l h f).count, grown_length (rows_grown l 0 (stack w 11 ds) (needed l h row)))

      whole_at : (e : Setting) (l : List Statement) (h : List ℕ) → (f : Framing t w n l h row es ds) → v ≤ 4095 → {z : ℕ} → z ≡ drawn_of e v m
          → Whole t w₃ n l h (scanned_rows l 0 (stack w 11 ds) (needed l h row)) (needed l h row) row es ds z m
      whole_at e l h f few q =
          let k = mandatory_few l h f in
          whole_of f (renumbered_then (renumbered_then s₁.kept s₂.kept) s₃.kept) (third_holds l h f) (second_holds l h f).count few
          (omega (arith, q, drawn_least e k)) (omega (arith, q, drawn_most e k))

      pub frame_whole : (e : Setting) → SomeFraming t w n row es ds → v ≤ 4095 → {z : ℕ} → z ≡ drawn_of e v m → SomeWhole t w₃ n row es ds z m
      frame_whole e c few q =
          record {
            l = c.l;
            h = c.h;
            vs = scanned_rows c.l 0 (stack w 11 ds) (needed c.l c.h row);
            m = needed c.l c.h row;
            holds = whole_at e c.l c.h c.holds few q;
          }

      -- ---- too many variables
      pub frames_over :
          (e : Setting) {u b : List ℕ} {at : ℕ} → 4095 < v → Forgets w₃ u n v → Frames e t w u n row es ds b b at None
      frames_over e big g =
          record {
            kept = renumbered_then (renumbered_then (renumbered_then s₁.kept s₂.kept) s₃.kept) g.kept;
            len = refl;
            sim = λ l h f. (
              (g.sim t l _ (third_holds l h f)).numbered,
              over (crowded_is f ∙ lt-ltb 4095 (length (scanned_rows l 0 (stack w 11 ds) (needed l h row))) (omega (arith, big, (third_holds l h f).count))) refl,
            );
          }

      -- ---- written
      pub frames_built :
          (e : Setting) {u₁ u₂ b b' : List ℕ} {at r z : ℕ} → v ≤ 4095 → z ≡ drawn_of e v m → PutFrame t w₃ u₁ n row es ds z m b b' at r
          → length b' ≡ length b → Forgets u₁ u₂ n v → Frames e t w u₂ n row es ds b b' at (Some r)
      frames_built e {z = z} few q p len g =
          record {
            kept = renumbered_then (renumbered_then (renumbered_then s₁.kept s₂.kept) s₃.kept) (rw p.words at g.kept);
            len = len;
            sim = λ l h f.
                let vs = scanned_rows l 0 (stack w 11 ds) (needed l h row) in (
                  (g.sim t l vs (rw (sym p.words) at (third_holds l h f))).numbered,
                  built (crowded_is f ∙ le-ltb 4095 (length vs) (omega (arith, few, (third_holds l h f).count)))
                      (wrote_as (p.sim l h vs (needed l h row) (whole_at e l h f few q)) (is_record e q l h f)),
                );
          }
        where
          same_rows : (l : List Statement) (h : List ℕ) → Framing t w n l h row es ds → stack w₃ 11 ds ≡ stack w 11 ds
          same_rows l h f =
              stack_renumbered 11 ds (renumbered_then (renumbered_then s₁.kept s₂.kept) s₃.kept) (omega arith) (omega (arith, f.assertion.named.shape.few, f.depth))

          is_record :
              (e : Setting) → z ≡ drawn_of e v m → (l : List Statement) (h : List ℕ) (f : Framing t w n l h row es ds)
              → frame_record (frame_as e (frame_at l h (stack w 11 ds) row))
              ≡ u32 (length (body l h (stack w₃ 11 ds) (take z (scanned_rows l 0 (stack w 11 ds) (needed l h row))) (needed l h row) row))
              ++ body l h (stack w₃ 11 ds) (take z (scanned_rows l 0 (stack w 11 ds) (needed l h row))) (needed l h row) row
          is_record setting.Full q l h f =
              let vs = scanned_rows l 0 (stack w 11 ds) (needed l h row) in
              let k : take z vs ≡ vs = ap (λ i. take i vs) (q ∙ (third_holds l h f).count) ∙ take-length vs in
              rw (same_rows l h f, k) (frame_is f)
          is_record setting.Short q l h f =
              let vs = scanned_rows l 0 (stack w 11 ds) (needed l h row) in
              let k : take z vs ≡ needed l h row = grown_front (rows_grown l 0 (stack w 11 ds) (needed l h row)) (q ∙ (second_holds l h f).count) in
              rw (same_rows l h f, k) (short_is f)
