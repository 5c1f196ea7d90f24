-- The closed examples of segments as one text, computed.
-- Every shut definition on the way is opened here.
use mathlib.Core.Path.{refl}
use Rattle.paper.specs.Base.{sameb, all}
use Rattle.paper.specs.Bytes.{white, printable, label_byte, math_byte}
use Rattle.paper.specs.Tokens.{run, toks, label_token, math_token, key, bad_from}
use Rattle.paper.specs.Comments.{after, bracketed, visible}
use Rattle.paper.specs.Statements.{closers, ends}
use Rattle.paper.specs.Reader.{allow, many, items}
use Rattle.paper.specs.Segments.{segment_bad, segment_items, looking}
use Rattle.theorems.specs.Joined.{joined, address_in}
use Rattle.theorems.specs.JoinedExamples.{JoinedExamples}

pub joined_examples : JoinedExamples
unfolding sameb all white printable label_byte math_byte run toks label_token math_token key bad_from after bracketed visible closers ends allow many items segment_bad segment_items looking joined address_in
joined_examples =
    record {
      three = record { text = refl; starts_are = refl; ends_are = refl; same = refl };
      no_segments = record { text = refl; starts_are = refl; ends_are = refl; same = refl };
      group_over_edge = record { is_refused = refl; is_read = refl };
    }
