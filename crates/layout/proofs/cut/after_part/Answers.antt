use mathlib.Core.Path.{◌≡◌}
use Rattle.std.specs.Prelude.{option_copied}
use Rattle.paper.specs.Layout.{part}
use Rattle.layout.specs.Cuts.{left}
use Rattle.layout.proofs.Left.{got_part}
use Rattle.layout.proofs.Ends.{ends_part, ends_of}
use Rattle.layout.proofs.cut.after_part.Goals as goal

pub returns : goal.returns
returns c =
    let e : option_copied c.get.result ≡ left (part c.args.size c.args.bytes.now) =
    got_part c.args.size c.args.bytes.now c.get.result c.get.ensures.lookup.0 in
    record { value = e; ends = ends_of (part c.args.size) c.args.bytes.now c.get.result (ends_part c.args.size) e }
