-- All statements one after the other, with their frames: both streams, or the first frame with over 4,095 variables.
-- Assumes nothing.
use mathlib.Core.Path.{◌≡◌, refl, sym, ap, ◌∙◌}
use mathlib.Core.Bool.{true}
use mathlib.Core.List.{List, [], ◌∷◌, ◌++◌, append-nil}
use mathlib.Core.Option.{none, some}
use Prim.Native.Nat.{ℕ, ◌+◌, ◌*◌, ◌<◌, ◌≤◌, ◌^◌}
use native.Mathlib.Numerals.{add-one}
use native.Mathlib.Omega.{arith}
use Rattle.std.specs.Int.{from_bool}
use Rattle.std.specs.Prelude.{None, Some, Result, Ok, Err}
use lib.Dec.{ltb}
use lib.ListN.{length, drop, length-append}
use Rattle.paper.specs.Base.{find, gather, table}
use Rattle.paper.specs.Statements.{Statement}
use Rattle.paper.specs.Frames.{Frame}
use Rattle.paper.specs.Give.{gives, all_given}
use Rattle.paper.specs.Records.{frame_records, frame_stream}
use Rattle.paper.specs.Answer.{crowded, frame_at, frames_in}
use Rattle.paper.specs.declared.Setting.{Setting}
use Rattle.paper.specs.declared.StatementOffset.{StatementOffset}
use Rattle.paper.proofs.Lists.{gather_append, find_append}
use Rattle.paper.proofs.Alls.{All, all_first}
use Rattle.area.specs.Cells.{statement_cell, word}
use Rattle.stream.specs.Wrote.{Wrote}
use Rattle.stream.proofs.Wrote.{wrote_none, wrote_then, wrote_as}
use Rattle.reader.specs.Rows.{stmt}
use Rattle.facts.specs.States.{state_at, view_at, given_at}
use Rattle.facts.proofs.States.{rest_next, given_cut, all_given_table}
use Rattle.sight.specs.Numbered.{Numbered}
use Rattle.slots.specs.Kept.{Room}
use Rattle.slots.proofs.Kept.{kept_then, kept_wide, room_kept, named_kept}
use Rattle.scopeck.specs.declared.Scope.{Scope}
use Rattle.scopeck.specs.Fold as checks
use Rattle.scopeck.proofs.Whole as laws
use Rattle.theorems.proofs.Offsets.{give_at}
use Rattle.fold.specs.declared.all.Streams.{Streams}
use Rattle.fold.specs.Turn.{SomeTurn, Told, told, over}
use Rattle.fold.specs.Fold.{Before, SomeBefore, Stepped, Blank, SomeBlank, Whole, SomeWhole, Streamed, streams, crowd, FoldsBlank, FoldsAll}
use Rattle.fold.specs.Fold as fold
use Rattle.fold.proofs.Kept.{numbered_same, turn_of, rows_renumbered}
use Rattle.token.proofs.Counts.{bit_le}
use Rattle.fold.proofs.Counts.{moved}

-- ---- one statement
pub some_turn : {t w v o o' : List ℕ} {n : ℕ} {st s : Scope} {k : ℕ} → SomeBefore t w n st k → checks.Steps t w v o o' n st s k → SomeTurn t v n s k
some_turn x y = record { of = x.of; holds = turn_of x.holds y }

pub some_checks : {t w : List ℕ} {n : ℕ} {st : Scope} {k : ℕ} → SomeBefore t w n st k → checks.SomeBefore t w n st k
some_checks x = record { of = x.of; holds = x.holds.checks }

-- ---- the frames and their records, of one more
frames_more : (l : List Statement) (k : ℕ) → frames_in (table (given_at l) (k + 1)) ≡ frames_in (table (given_at l) k) ++ (given_at l k).frame
unfolding table gather
frames_more l k =
    rw add-one
    (gather_append (λ g. g.frame) (table (given_at l) k) (given_at l k ∷ [])
    ∙ ap (λ (m : List Frame). frames_in (table (given_at l) k) ++ m) (append-nil (given_at l k).frame))

records_more : (c : Setting) (l : List Statement) (k : ℕ)
    → gather (frame_records c) (table (given_at l) (k + 1)) ≡ gather (frame_records c) (table (given_at l) k) ++ frame_records c (given_at l k)
unfolding table gather
records_more c l k =
    rw add-one
    (gather_append (frame_records c) (table (given_at l) k) (given_at l k ∷ [])
    ∙ ap (λ (m : List ℕ). gather (frame_records c) (table (given_at l) k) ++ m) (append-nil (frame_records c (given_at l k))))

-- the first crowded frame
crowded_first : (l : List Statement) (k : ℕ) (f : Frame) → k < length l → find crowded (frames_in (table (given_at l) k)) ≡ none → (given_at l k).frame ≡ f ∷ []
    → crowded f ≡ true → find crowded (frames_in (all_given l)) ≡ some f
unfolding gather find
crowded_first l k f h e g c =
    ap (λ m. find crowded (frames_in m)) (given_cut l k (omega arith) ∙ ap (λ m. table (given_at l) k ++ m) (rest_next l k h))
    ∙ ap (find crowded) (gather_append (λ x. x.frame) (table (given_at l) k) (given_at l k ∷ gives l (drop (k + 1) l) (state_at l (k + 1))))
    ∙ find_append crowded (frames_in (table (given_at l) k)) ((given_at l k).frame ++ frames_in (gives l (drop (k + 1) l) (state_at l (k + 1))))
    ∙ rw (e, g, c)

frame_offset : (l : List Statement) (k : ℕ) (f : Frame) → (given_at l k).frame ≡ f ∷ [] → frame_at f ≡ (stmt l k).at
unfolding given_at
frame_offset l k f e =
    let a : All (λ x. frame_at x ≡ (stmt l k).at) (f ∷ []) = rw e at (give_at l (view_at l k) (stmt l k)).frame in
    all_first a

-- ---- so many statements are done
pub record Far (c : Setting) (w b₀ b : List ℕ) (n : ℕ) (l : List Statement) (at count k : ℕ) : Type 0 where
  pub free : Numbered w n l []
  pub few : find crowded (frames_in (table (given_at l) k)) ≡ none
  pub told : Wrote b₀ b 0 at (gather (frame_records c) (table (given_at l) k))
  pub place : at ≤ 4294967300 * k
  pub counted : count ≡ length (frames_in (table (given_at l) k))

pub record InvFold (c : Setting) (t w₀ w b₀ b o₀ o : List ℕ) (n rows : ℕ) (st : Scope) (at count k : ℕ) : Type 0 where
  pub checks : laws.InvRows t w₀ w o₀ o n rows st k
  pub len : length b ≡ length b₀
  pub few : count ≤ k
  pub sim : {l : List Statement} → Blank t w₀ n rows l → Far c w b₀ b n l at count k

pub fold_start : {c : Setting} {t w b o : List ℕ} {n rows : ℕ} → InvFold c t w w b b o o n rows (record { es = 0; ds = 0; diags = 0 }) 0 0 0
unfolding table gather find
fold_start {b = b} =
    record {
      checks = laws.rows_start;
      len = refl;
      few = omega arith;
      sim = λ {l} x. record { free = x.unframed.free; few = refl; told = wrote_none b 0; place = omega arith; counted = refl };
    }

module _ {c : Setting} {t w₀ w b₀ b o₀ o : List ℕ} {n rows : ℕ} {st : Scope} {at count k : ℕ} (h : k < rows) (x : InvFold c t w₀ w b₀ b o₀ o n rows st at count k) where
  before_of : {l : List Statement} → Blank t w₀ n rows l → Before t w n l st k
  before_of z =
      record {
        checks = laws.before_of h x.checks z.checks;
        unframed = record { free = (x.sim z).free; short = z.unframed.short };
      }

  pub can_step : SomeBlank t w₀ n rows → SomeBefore t w n st k × (at < 2 ^ 56)
  can_step z =
      let c = z.holds.checks in (
        record { of = z.of; holds = before_of z.holds },
        omega (arith, (x.sim z.holds).place, c.count, c.named.shape.few, c.room.small),
      )

  -- the row is still there
  pub row_room : {u : List ℕ} → SomeBlank t w₀ n rows → length u ≡ length w → Room u n × (3 * k + 3 ≤ n)
  row_room z e =
      let c = laws.before_of h x.checks z.holds.checks in
      (record { room = omega (arith, e, c.room.room); small = c.room.small }, laws.before_room c)

  far_more : {l : List Statement} {u b' : List ℕ} {r i : ℕ} → Blank t w₀ n rows l → Numbered u n l [] → Told c b b' at (given_at l k) (Some r) → i ≡ from_bool (ltb at r)
      → Far c u b₀ b' n l r (count + i) (k + 1)
  far_more {l} z free (told none_here wrote) e =
      let f = x.sim z in
      record {
        free = free;
        few = rw (frames_more l k) (find_append crowded (frames_in (table (given_at l) k)) (given_at l k).frame ∙ rw (f.few, none_here));
        told = wrote_as (wrote_then f.told wrote) (records_more c l k);
        place = omega (arith, f.place, wrote.place, z.unframed.short c k (omega (arith, h, z.checks.count)) none_here);
        counted = rw (frames_more l k) (omega (arith, f.counted, e, moved c l k at wrote.place, length-append (frames_in (table (given_at l) k)) (given_at l k).frame));
      }

  pub fold_next : {u b' o' : List ℕ} {s : Scope} {r i : ℕ} → length o' ≡ length o → Stepped c t w u b b' o o' n st at k (Some (s, r)) → i ≡ from_bool (ltb at r)
      → InvFold c t w₀ u b₀ b' o₀ o' n rows s r (count + i) (k + 1)
  fold_next {r = r} len (fold.next y z) e =
      record {
        checks = rows_renumbered z.kept (laws.rows_step h x.checks y len);
        len = z.len ∙ x.len;
        few = omega (arith, x.few, e, bit_le (ltb at r));
        sim = λ {l} a. let q = z.sim (turn_of (before_of a) y) in far_more a q.0 q.1 e;
      }

  -- ---- the end at a frame with too many variables
  over_first : {u b' o' : List ℕ} {l : List Statement} {s : Scope} {p : ℕ} → Blank t w₀ n rows l → laws.InvRows t w₀ u o₀ o' n rows s (k + 1)
      → Told c b b' at (given_at l k) None → p ≡ word u (statement_cell k 1) → Streamed c b₀ b' o₀ o' (all_given l) (Err (record { 0 = p }))
  over_first {l = l} {p = p} a m (over f g j) e =
      let i : k < length l = omega (arith, h, a.checks.count) in
      let q : p ≡ frame_at f =
      e
      ∙ m.kept.low k 1 (omega (arith, i, a.checks.named.shape.few)) (omega arith) (omega arith)
      ∙ a.checks.named.shape.at k i
      ∙ sym (frame_offset l k f g) in
      rw q (crowd f (crowded_first l k f i (x.sim a).few g j))

  pub fold_over : {u b' o' : List ℕ} {p : ℕ} → length o' ≡ length o → Stepped c t w u b b' o o' n st at k None → p ≡ word u (statement_cell k 1)
      → FoldsBlank c t w₀ u b₀ b' o₀ o' n rows (Err (record { 0 = p }))
  fold_over len (fold.over y z) e =
      let m = rows_renumbered z.kept (laws.rows_step h x.checks y len) in
      record {
        kept = m.kept;
        frames = z.len ∙ x.len;
        diags = m.len;
        sim = λ {l} a.
            let q = z.sim (turn_of (before_of a) y) in
            (record { marks = (m.sim a.checks).stands.marks; free = q.0 }, over_first a m q.1 e);
      }

-- ---- the end after all
pub fold_end : {c : Setting} {t w₀ w b₀ b o₀ o : List ℕ} {n rows : ℕ} {st : Scope} {at count k : ℕ} → rows ≤ k → InvFold c t w₀ w b₀ b o₀ o n rows st at count k
    → FoldsBlank c t w₀ w b₀ b o₀ o n rows (Ok (record { frames = at; diags = st.diags; count = count }))
unfolding frame_stream
fold_end {c = c} {k = k} h x =
    let z = laws.rows_end h x.checks in
    record {
      kept = z.kept;
      frames = x.len;
      diags = x.checks.len;
      sim = λ {l} a.
          let f = x.sim a in
          let y = z.sim a.checks in
          let e : all_given l ≡ table (given_at l) k = all_given_table l ∙ ap (table (given_at l)) (omega (arith, h, x.checks.upto, a.checks.count)) in (
            record { marks = y.marks; free = f.free },
            streams (ap (λ m. find crowded (frames_in m)) e ∙ f.few) (wrote_as f.told (ap (gather (frame_records c)) e)) y.diags
                (f.counted ∙ ap (λ m. length (frames_in m)) (sym e)),
          );
    }

-- ---- after what an earlier pass recorded is taken away
blank_of : {t w v : List ℕ} {n rows names : ℕ} {l : List Statement} → checks.Forgotten w v n names → Whole t w n rows names l → Blank t v n rows l
blank_of f a =
    record {
      checks = laws.blank_of f a.checks;
      unframed = record {
        free = numbered_same (omega (arith, a.checks.named.few)) (λ i h. f.kept.right i 5 h (omega arith) (omega arith)) a.unframed.free;
        short = a.unframed.short;
      };
    }

pub some_blank : {t w v : List ℕ} {n rows names : ℕ} → checks.Forgotten w v n names → SomeWhole t w n rows names → SomeBlank t v n rows
some_blank f x = record { of = x.of; holds = blank_of f x.holds }

pub whole_names : {t w : List ℕ} {n rows names : ℕ} → SomeWhole t w n rows names → Room w n × (names ≤ n)
whole_names x = laws.names_fit (record { of = x.of; holds = x.holds.checks })

pub folds_all : {e : Setting} {t w v u b b' o o' : List ℕ} {n rows names : ℕ} {r : Result Streams StatementOffset}
    → checks.Forgotten w v n names → FoldsBlank e t v u b b' o o' n rows r → FoldsAll e t w u b b' o o' n rows names r
folds_all f x =
    let m = kept_then (kept_wide 8 12 2 7 (omega arith) (omega arith) (omega arith) (omega arith) f.kept) x.kept in
    record {
      len = m.len;
      frames = x.frames;
      diags = x.diags;
      sim = λ {l} a.
          let y = x.sim (blank_of f a) in
          let c = a.checks in (
            record {
              checks = record {
                named = named_kept (omega arith) (omega arith) m c.named;
                facts = c.facts;
                room = room_kept m c.room;
                count = c.count;
                atoms_are = c.atoms_are;
                marks = y.0.marks;
              };
              unframed = record { free = y.0.free; short = a.unframed.short };
            },
            y.1,
          );
    }
