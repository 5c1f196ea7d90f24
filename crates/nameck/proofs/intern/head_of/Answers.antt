use native.Mathlib.Omega.{arith}
use Rattle.nameck.specs.Links.{head_by}
use Rattle.nameck.proofs.Hash.{product_fits, bucket_few}
use Rattle.nameck.proofs.intern.head_of.Goals as goal

pub overflow_mul-b : goal.overflow_mul-b
overflow_mul-b c = omega (arith, product_fits c.args.n c.args.h c.requires.1 c.requires.0)

pub bucket-requires : goal.bucket-requires
bucket-requires c = (omega arith, omega (arith, bucket_few c.args.n c.args.h c.requires.1))

pub returns : goal.returns
unfolding head_by
returns c = c.bucket.ensures
