use mathlib.Core.Path.{ap}
use Prim.Native.Nat.{◌+◌}
use Rattle.token.specs.declared.count.Counted.{Counted}
use Rattle.fold.proofs.Starts.{some_read, some_unnumbered, starts}
use Rattle.fold.proofs.start.start.Goals as goal

pub name_all-names-requires : goal.name_all-names-requires
name_all-names-requires c = some_read (ap (λ (x : Counted). x.tokens + 1) c.count-n.ensures) c.requires

pub mark_constants-requires : goal.mark_constants-requires
mark_constants-requires c = some_unnumbered (ap (λ (x : Counted). x.tokens + 1) c.count-n.ensures) c.requires c.name_all-names.ensures

pub returns : goal.returns
returns c =
    starts (ap (λ (x : Counted). x.tokens + 1) c.count-n.ensures) c.name_all-names.ensures c.mark_constants.ensures
    c.name_all-names.auto.work
