use mathlib.Core.Path.{refl}
use native.Mathlib.Omega.{arith}
use Rattle.token.proofs.Classes.{is_white, not_white}
use Rattle.nameck.proofs.Hash.{hashing_begin, hashing_step, hashing_white, hashing_end}
use Rattle.nameck.proofs.naming.hash_token.Goals as goal

pub loop-i-init : goal.loop-i-init
loop-i-init c = (refl, hashing_begin _ _)

pub returns-then-class_of-eq-WHITE : goal.returns-then-class_of-eq-WHITE
returns-then-class_of-eq-WHITE c =
    hashing_white c.loop-i.invariant (omega arith) (is_white _ c.class_of.ensures c.if-class_of-eq-WHITE.true)

pub loop-i-preserved : goal.loop-i-preserved
loop-i-preserved c = (
  refl,
  rw c.hash_more.ensures.0
      (hashing_step c.loop-i.invariant (omega arith) (not_white _ c.class_of.ensures c.if-class_of-eq-WHITE.false)),
)

pub returns : goal.returns
returns c = hashing_end c.loop-i.invariant (omega arith)
