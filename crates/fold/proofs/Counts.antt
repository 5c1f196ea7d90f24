-- The number of frames: a statement has at most one, and no record is empty, so the place after it tells whether it has.
-- Assumes nothing.
use mathlib.Core.Path.{◌≡◌, refl}
use mathlib.Core.List.{List, []}
use Prim.Native.Nat.{ℕ, ◌+◌, ◌≤◌}
use native.Mathlib.Omega.{arith}
use Rattle.std.specs.Int.{from_bool}
use lib.Dec.{ltb}
use lib.ListN.{length, length-append}
use borrow.Author.Tests.{lt-ltb, le-ltb}
use Rattle.paper.specs.Base.{gather}
use Rattle.paper.specs.Statements.{Statement}
use Rattle.paper.specs.Frames.{Frame, frame_as}
use Rattle.paper.specs.Give.{give}
use Rattle.paper.specs.Records.{le, u16, u32, framed, frame_record, frame_records}
use Rattle.paper.specs.declared.Setting.{Setting}
use Rattle.reader.specs.Rows.{stmt}
use Rattle.facts.specs.States.{view_at, given_at}
use Rattle.theorems.proofs.Lengths.{frame_framed}
use Rattle.theorems.proofs.Short.{One, no_frame, one_frame, one_by}

-- ---- a record is never empty
record_some : (x : Frame) → 6 ≤ length (frame_record x)
unfolding framed u32 u16 le
record_some x = rw (frame_framed x) (omega arith)

moved_by : (c : Setting) {f : List Frame} (at r : ℕ) → One f → r ≡ at + length (gather (λ x. frame_record (frame_as c x)) f)
    → from_bool (ltb at r) ≡ length f
unfolding gather
moved_by c at r no_frame e = rw (le-ltb at r (omega (arith, e))) refl
moved_by c at r (one_frame {x = x}) e =
    rw (lt-ltb at r (omega (arith, e, length-append (frame_record (frame_as c x)) [], record_some (frame_as c x)))) refl

-- the place at before, and r after the frame of statement k
pub moved : (e : Setting) (l : List Statement) (k at : ℕ) {r : ℕ} → r ≡ at + length (frame_records e (given_at l k))
    → from_bool (ltb at r) ≡ length (given_at l k).frame
unfolding frame_records given_at give
moved e l k at {r} q = moved_by e at r (one_by (stmt l k).kind l (view_at l k) (stmt l k)) q
