use native.Mathlib.Omega.{arith}
use Rattle.nameck.proofs.Walk.{math_begin, some_at, math_step, math_end, read}
use Rattle.nameck.proofs.naming.name_math.Goals as goal

pub loop-row-init : goal.loop-row-init
loop-row-init c = math_begin _ _ _ _ _ _ _ (omega arith)

pub name_token-k-requires : goal.name_token-k-requires
name_token-k-requires c =
    some_at _ c.loop-row.invariant (read _ _ 3 c.statement.ensures) (read _ _ 5 c.statement-2.ensures)
    (omega (arith, read c.args.work.now c.args.s 6 c.statement-3.ensures)) (omega arith) c.requires

pub loop-row-preserved : goal.loop-row-preserved
loop-row-preserved c =
    math_step _ c.loop-row.invariant (read _ _ 3 c.statement.ensures) (read _ _ 5 c.statement-2.ensures)
    (omega (arith, read c.args.work.now c.args.s 6 c.statement-3.ensures)) (omega arith) (omega arith)
    c.name_token-k.ensures c.name_token-k.auto.work

pub shape_of-work : goal.shape_of-work
shape_of-work c = c.loop-row.invariant.len

pub returns : goal.returns
returns c =
    math_end c.loop-row.invariant (omega (arith, read c.args.work.now c.args.s 6 c.statement-3.ensures))
