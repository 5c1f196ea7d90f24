use native.Mathlib.Omega.{arith}
use Rattle.area.proofs.Laws.{word_at}
use Rattle.sight.proofs.Stacks.{forget_start, forget_within, forget_step, forget_end}
use borrow.Author.Rules.{rules}
use Rattle.sight.proofs.forget.Goals as goal

pub loop-k-init : goal.loop-k-init
loop-k-init c = forget_start _ _ _

pub bucket-requires : goal.bucket-requires
bucket-requires c = let b = forget_within c.loop-k.invariant c.requires (search rules) in omega arith

pub offset_bounds-work-bucket : goal.offset_bounds-work-bucket
offset_bounds-work-bucket c = let b = forget_within c.loop-k.invariant c.requires (search rules) in omega arith

pub bounds-work-bucket : goal.bounds-work-bucket
bounds-work-bucket c = let b = forget_within c.loop-k.invariant c.requires (search rules) in omega arith

pub bounds-work-symbol : goal.bounds-work-symbol
bounds-work-symbol c = let b = forget_within c.loop-k.invariant c.requires (search rules) in omega (arith, word_at c.loop-k.work c.bucket.ensures)

pub loop-k-preserved : goal.loop-k-preserved
loop-k-preserved c = forget_step c.loop-k.invariant c.requires (search rules) (word_at c.loop-k.work c.bucket.ensures) c.symbol.ensures

pub returns : goal.returns
returns c = forget_end c.loop-k.invariant (search rules)
