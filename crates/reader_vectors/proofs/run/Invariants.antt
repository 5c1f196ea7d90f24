use Rattle.std.proofs.Common.{length}
use Rattle.reader_vectors.proofs.run.Given as goal

abbrev pub decreases-loop-left : goal.decreases-loop-left
decreases-loop-left l = length l.left
