-- A frame whose record fits its layout: its kind is that of an assertion, its rows are V by V, and every length fits its field.
-- Every frame of a text that is answered is one.
use Rattle.std.specs.Prelude.{◌≡◌, true, ◌+◌, ◌*◌, ◌/◌, ◌<◌, eqb, length}
use Rattle.paper.specs.Base.{or, gather}
use Rattle.paper.specs.Frames.{Full, Frame, stub, full}
use Rattle.paper.specs.Records.{row_bytes, frame_record}

pub record RegularFull (f : Full) : Type 0 where
  pub kind : or (eqb f.kind 2) (eqb f.kind 3) ≡ true
  pub few : length f.variables < 65536
  pub rows : length (gather row_bytes f.rows) ≡ length f.variables * ((length f.variables + 7) / 8)

abbrev pub RegularFrame : Frame → Type 0
RegularFrame (stub o e n c v) = Unit
RegularFrame (full f) = RegularFull f

pub record Regular (x : Frame) : Type 0 where
  pub short : length (frame_record x) < 4294967300
  pub shape : RegularFrame x
