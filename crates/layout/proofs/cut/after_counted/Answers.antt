use mathlib.Core.Path.{◌≡◌, sym, ◌∙◌}
use Rattle.std.specs.Prelude.{option_copied}
use Rattle.paper.specs.Layout.{counted}
use Rattle.layout.specs.Cuts.{left}
use Rattle.layout.proofs.Left.{counted_short, counted_left}
use Rattle.layout.proofs.Ends.{ends_counted, ends_of}
use Rattle.layout.proofs.cut.after_counted.Goals as goal

pub returns-then-bytes-lt4 : goal.returns-then-bytes-lt4
returns-then-bytes-lt4 c =
    record {
      value = sym (counted_short c.args.size c.args.bytes.now c.if-bytes-lt4.true);
      ends = tt;
    }

pub returns : goal.returns
returns c =
    let e : option_copied c.after_part.result ≡ left (counted c.args.size c.args.bytes.now) =
    c.after_part.ensures.value ∙ counted_left c.args.size c.u32_at.result c.args.bytes.now c.if-bytes-lt4.false c.u32_at.ensures.1 in
    record { value = e; ends = ends_of (counted c.args.size) c.args.bytes.now c.after_part.result (ends_counted c.args.size) e }
