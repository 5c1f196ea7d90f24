use mathlib.Core.Path.{◌∙◌}
use native.Mathlib.Omega.{arith}
use Rattle.nameck.proofs.Hash.{hash_small}
use Rattle.nameck.proofs.intern.Name.head.Goals as goal

pub head_of-requires : goal.head_of-requires
head_of-requires c = (omega arith, rw c.args.self.hashed_is (hash_small 0 _ (omega arith)))

pub returns : goal.returns
returns c = c.head_of.ensures ∙ rw c.args.self.hashed_is
