use mathlib.Core.Path.{◌≡◌}
use lib.ListN.{take}
use Rattle.paper.specs.Records.{le, u16}
use Rattle.stream.proofs.write.put_u16.Goals as goal

pub returns : goal.returns
unfolding u16 le
returns c =
    let e : take 2 c.to_le_bytes.result ≡ u16 c.args.n = rw c.to_le_bytes.ensures in
    rw e at c.put_bytes.ensures
