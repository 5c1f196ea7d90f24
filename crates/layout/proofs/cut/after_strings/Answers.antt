use mathlib.Core.Path.{◌≡◌}
use Rattle.std.proofs.Common.{rules}
use Rattle.std.specs.Prelude.{option_copied}
use Rattle.paper.specs.Layout.{times, a_string}
use Rattle.layout.specs.Cuts.{left}
use Rattle.layout.proofs.Ends.{ends_counted, ends_times, ends_of}
use Rattle.layout.proofs.cut.after_strings.Goals as goal

pub returns : goal.returns
returns c =
    let e : option_copied c.after_times.result ≡ left (times c.args.count a_string c.args.bytes.now) =
    c.after_times.ensures a_string (λ y s p. search rules) in
    record { value = e; ends = ends_of (times c.args.count a_string) c.args.bytes.now c.after_times.result (ends_times c.args.count a_string (ends_counted 1)) e }
