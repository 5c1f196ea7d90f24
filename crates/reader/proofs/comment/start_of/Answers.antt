use mathlib.Core.Path.{◌≡◌}
use Prim.Native.Nat.{◌+◌, ◌-◌}
use native.Mathlib.Omega.{arith}
use Rattle.token.proofs.Classes.{is_white, not_white}
use Rattle.reader.proofs.Hops.{inside_more}
use borrow.Author.Rules.{rules}
use Rattle.reader.proofs.comment.start_of.Goals as goal

pub returns-then-class_of-eq-WHITE : goal.returns-then-class_of-eq-WHITE
returns-then-class_of-eq-WHITE c = let q : c.loop-i.i - 1 + 1 ≡ c.loop-i.i = omega arith in let v = c.loop-i.invariant in
    rw q (record { from = v.0; upto = v.1; inside = v.2; opens = λ h. is_white _ c.class_of.ensures c.if-class_of-eq-WHITE.true })

pub loop-i-preserved : goal.loop-i-preserved
loop-i-preserved c = (
  search rules,
  search rules,
  inside_more c.args.text.now c.args.k c.loop-i.i (search rules) c.loop-i.invariant.2 (not_white _ c.class_of.ensures c.if-class_of-eq-WHITE.false),
)
