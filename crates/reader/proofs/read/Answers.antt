use Prim.Native.Nat.{zero-le}
use native.Mathlib.Omega.{arith}
use Rattle.token.proofs.Counts.{few_tokens}
use Rattle.token.proofs.Lines.{line_start}
use Rattle.reader.proofs.Unread.{bad_inside, counted_tokens, read_long, read_short, read_bad, read_begin, read_good}
use borrow.Author.Rules.{rules}
use Rattle.reader.proofs.read.Goals as goal

pub returns-then-text-gt16777216 : goal.returns-then-text-gt16777216
returns-then-text-gt16777216 c = read_long _ c.args.work.now c.clear.ensures c.if-text-gt16777216.true

pub overflow_add-n : goal.overflow_add-n
overflow_add-n c = omega (arith, counted_tokens _ c.count-counted.ensures, few_tokens c.args.text.now)

pub overflow_mul-n : goal.overflow_mul-n
overflow_mul-n c = omega (arith, counted_tokens _ c.count-counted.ensures, few_tokens c.args.text.now)

pub overflow_mul-result : goal.overflow_mul-result
overflow_mul-result c = omega (arith, counted_tokens _ c.count-counted.ensures, few_tokens c.args.text.now)

pub returns-then-work-n : goal.returns-then-work-n
returns-then-work-n c = read_short _ c.args.work.now c.if-text-gt16777216.false c.count-counted.ensures c.clear-then-work-n.ensures (search rules)

pub hop-requires : goal.hop-requires
hop-requires c = (rw c.text_start.ensures (line_start _), rw c.text_start.ensures zero-le, bad_inside _ c.count-counted.ensures c.in-Some.is)

pub returns-in-Some : goal.returns-in-Some
returns-in-Some c = read_bad _ c.args.work.now c.if-text-gt16777216.false c.count-counted.ensures (search rules) c.clear-in-Some.ensures _ c.in-Some.is c.hop.ensures.0 c.hop.ensures.1

pub read_text-requires : goal.read_text-requires
read_text-requires c = read_begin _ c.args.work.now c.if-text-gt16777216.false c.count-counted.ensures (search rules) c.clear_part.ensures

pub returns : goal.returns
returns c = read_good _ c.args.work.now c.if-text-gt16777216.false c.count-counted.ensures (search rules) c.clear_part.ensures
    c.read_text.new.work c.read_text.result c.in_default.is c.read_text.ensures
