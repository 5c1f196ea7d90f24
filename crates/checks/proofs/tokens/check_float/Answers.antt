use native.Mathlib.Omega.{arith}
use Rattle.checks.proofs.Ones.{float_failed, float_passed}
use Rattle.checks.proofs.tokens.check_float.Goals as goal

pub put_variable-q-requires : goal.put_variable-q-requires
put_variable-q-requires c = omega (arith, c.put_typecode-p.ensures.0, c.requires.0.place)

pub returns-then-q-at : goal.returns-then-q-at
returns-then-q-at c =
    float_failed c.check_math_symbol-b.ensures c.check_math_symbol-c.ensures c.put_typecode-p.ensures c.put_variable-q.ensures
    (λ e. omega (arith, e, c.if-q-at.true))

pub put_found-requires : goal.put_found-requires
put_found-requires c = omega (arith, c.put_variable-q.ensures.0, c.put_typecode-p.ensures.0, c.requires.0.place)

pub returns : goal.returns
returns c =
    float_passed c.check_math_symbol-b.ensures c.check_math_symbol-c.ensures c.put_typecode-p.ensures c.put_variable-q.ensures
    (omega (arith, c.if-q-at.false)) c.earlier_float-earlier.ensures (rw c.new.ensures at c.put_found.ensures)
