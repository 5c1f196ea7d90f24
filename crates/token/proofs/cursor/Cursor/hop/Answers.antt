use mathlib.Core.Path.{◌≡◌, refl, ◌∙◌}
use Prim.Native.Nat.{◌-◌}
use native.Mathlib.Omega.{arith}
use lib.ListN.{take, drop}
use Rattle.std.specs.Slice.Iter.{chunks_rest}
use Rattle.token.proofs.Lines.{feeds_parts, feeds_le, line_between, line_few}
use borrow.Author.Rules.{rules}
use Rattle.token.proofs.cursor.Cursor.hop.Goals as goal

pub loop-leg-init : goal.loop-leg-init
loop-leg-init c =
    let t = c.args.text.now in
    let q : chunks_rest c.into_iter-leg-iterator.result ≡ take (c.args.to - c.args.self.at) (drop c.args.self.at t) = search rules in
    (search rules, rw (q, c.requires.0) (line_between t c.args.self.at c.args.to (search rules)))

pub overflow_add-line : goal.overflow_add-line
overflow_add-line c =
    let s = c.in-Some.ensures.steps in
    let q = feeds_parts c.in-Some.leg.now (chunks_rest c.next.new.self) s.1.0 in
    let few = line_few c.args.text.now c.args.to (search rules) in
    omega (arith, q, c.loop-leg.invariant.1, c.from-line.ensures, c.feeds_in.ensures.0, few, c.well_formed)

pub loop-leg-preserved : goal.loop-leg-preserved
loop-leg-preserved c =
    let s = c.in-Some.ensures.steps in
    let q = feeds_parts c.in-Some.leg.now (chunks_rest c.next.new.self) s.1.0 in
    (s.0 ∙ c.loop-leg.invariant.0, omega (arith, q, c.loop-leg.invariant.1, c.from-line.ensures, c.feeds_in.ensures.0))

pub returns : goal.returns
returns c = (refl, omega (arith, c.in-None.ensures.steps, feeds_le (chunks_rest c.loop-leg.leg-iterator), c.loop-leg.invariant.1))
