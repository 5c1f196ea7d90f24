use Rattle.reader_bench.proofs.Numbers.{read_number, refused_number}
use Rattle.reader_bench.proofs.reader_bench_read.Goals as goal

pub returns-in-Ok : goal.returns-in-Ok
returns-in-Ok c = read_number _ _ c.args.work.now _ c.in-Ok.ensures

pub returns-in-Err : goal.returns-in-Err
returns-in-Err c = refused_number _ _ c.args.work.now _ c.in-Err.ensures c.number.ensures
