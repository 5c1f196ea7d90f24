use Rattle.fold.proofs.Starts.{some_whole}
use Rattle.catalogue.proofs.Numbers.{needs}
use Rattle.catalogue.proofs.streams.measure_read.Goals as goal

pub sizes-requires : goal.sizes-requires
sizes-requires c = some_whole c.start-at.ensures c.requires

pub returns : goal.returns
returns c = needs c.start-at.ensures c.sizes.ensures
