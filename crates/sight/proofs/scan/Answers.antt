use native.Mathlib.Omega.{arith}
use Rattle.area.proofs.Laws.{word_at}
use Rattle.sight.proofs.Walks.{scan_bounds, scan_within, scan_start, scan_step, scan_end}
use Rattle.sight.proofs.scan.Goals as goal

pub loop-i-init : goal.loop-i-init
loop-i-init c = scan_start _ _ _ _ _

pub overflow_add-tokens : goal.overflow_add-tokens
overflow_add-tokens c = let b = scan_within c.loop-i.invariant c.requires c.of-tokens.ensures.first (omega (arith, c.of-tokens.ensures.count)) in let d = scan_bounds c.requires in omega arith

pub math-requires : goal.math-requires
math-requires c = let b = scan_within c.loop-i.invariant c.requires c.of-tokens.ensures.first (omega (arith, c.of-tokens.ensures.count)) in let d = scan_bounds c.requires in omega arith

pub offset_bounds-work-math : goal.offset_bounds-work-math
offset_bounds-work-math c = let b = scan_within c.loop-i.invariant c.requires c.of-tokens.ensures.first (omega (arith, c.of-tokens.ensures.count)) in omega arith

pub bounds-work-math : goal.bounds-work-math
bounds-work-math c = let b = scan_within c.loop-i.invariant c.requires c.of-tokens.ensures.first (omega (arith, c.of-tokens.ensures.count)) in omega arith

pub see-v-requires : goal.see-v-requires
see-v-requires c = let b = scan_within c.loop-i.invariant c.requires c.of-tokens.ensures.first (omega (arith, c.of-tokens.ensures.count)) in let d = scan_bounds c.requires in omega (arith, word_at c.loop-i.work c.math.ensures)

pub loop-i-preserved : goal.loop-i-preserved
loop-i-preserved c = scan_step c.loop-i.invariant c.requires c.of-tokens.ensures.first (omega (arith, c.of-tokens.ensures.count)) (word_at c.loop-i.work c.math.ensures) c.see-v.ensures.0 c.see-v.ensures.1

pub returns : goal.returns
returns c = scan_end c.loop-i.invariant (omega (arith, c.of-tokens.ensures.count))
