use Rattle.fold.proofs.Starts.{read_held}
use Rattle.naming_bench.proofs.naming_bench_name.Goals as goal

pub start-requires : goal.start-requires
start-requires c = read_held c.args.work.now _ c.in-Ok.ensures
