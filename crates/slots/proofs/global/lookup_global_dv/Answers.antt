use mathlib.Core.Path.{◌≡◌, ◌∙◌, sym}
use native.Mathlib.Omega.{arith}
use Rattle.slots.proofs.Stacks.{end_is}
use Rattle.slots.proofs.Lowest.{global_start, global_step, global_end}
use Rattle.slots.proofs.global.lookup_global_dv.Goals as goal

pub loop-k-init : goal.loop-k-init
loop-k-init c = global_start _ _

pub of_statement-row-requires : goal.of_statement-row-requires
of_statement-row-requires c = (c.requires.room, omega (arith, c.requires.depth), c.requires.column)

pub of_statement-end-requires : goal.of_statement-end-requires
of_statement-end-requires c = (c.requires.room, omega (arith, c.of_statement-row.ensures, c.requires.entry c.loop-k.k (omega arith)), omega arith)

pub returns-then-end : goal.returns-then-end
returns-then-end c = global_end c.loop-k.invariant (λ h e. c.if-end.true (end_is _ _ _ _ _ c.of_statement-row.ensures c.of_statement-end.ensures ∙ e))

pub loop-k-preserved : goal.loop-k-preserved
loop-k-preserved c = global_step c.loop-k.invariant (omega arith) (sym (end_is _ _ _ _ _ c.of_statement-row.ensures c.of_statement-end.ensures) ∙ c.if-end.false)

pub returns : goal.returns
returns c =
    let e : c.loop-k.k ≡ c.args.ds = omega arith in
    global_end (rw e at c.loop-k.invariant) (λ h e. omega arith)
