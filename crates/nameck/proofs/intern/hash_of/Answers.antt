use mathlib.Core.Path.{sym, ◌∙◌}
use native.Mathlib.Omega.{arith}
use Rattle.nameck.proofs.Hash.{hash_whole, hash_step, hash_end}
use Rattle.nameck.proofs.intern.hash_of.Goals as goal

pub loop-b-init : goal.loop-b-init
loop-b-init c = (omega arith, hash_whole _)

pub loop-b-preserved : goal.loop-b-preserved
loop-b-preserved c =
    (c.hash_more-h.ensures.1, rw c.hash_more-h.ensures.0 (hash_step _ _ _ (omega arith) ∙ c.loop-b.invariant.1))

pub returns : goal.returns
returns c = (sym (hash_end _ _ _ (omega arith)) ∙ c.loop-b.invariant.1, c.loop-b.invariant.0)
