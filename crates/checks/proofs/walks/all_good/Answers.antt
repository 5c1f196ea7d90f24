use native.Mathlib.Omega.{arith}
use Rattle.checks.proofs.Good.{good_start, good_step, good_end}
use Rattle.checks.proofs.walks.all_good.Goals as goal

pub loop-i-init : goal.loop-i-init
loop-i-init c = good_start _ _ _ _ _

pub overflow_add-first : goal.overflow_add-first
overflow_add-first c = omega (arith, c.requires.1.rows, c.requires.0.small)

pub of_math-requires : goal.of_math-requires
of_math-requires c = (c.requires.0, omega (arith, c.requires.1.rows))

pub overflow_cast-i : goal.overflow_cast-i
overflow_cast-i c = omega (arith, c.requires.1.rows, c.requires.0.small)

pub is_good-requires : goal.is_good-requires
is_good-requires c = (
  c.requires.0,
  rw c.of_math.ensures (c.requires.1.atom c.loop-i.i c.loop-i-test.true),
  rw c.of_math.ensures (c.requires.2 c.loop-i.i c.loop-i-test.true),
)

pub loop-i-preserved : goal.loop-i-preserved
loop-i-preserved c =
    good_step c.loop-i-test.true c.of_math.ensures (rw c.new.ensures at (c.is_good.ensures c.if-not-is_good.false))
    c.loop-i.invariant

pub returns : goal.returns
returns c = λ e. good_end (omega arith) c.loop-i.invariant
