use mathlib.Core.Path.{◌≡◌}
use Prim.Native.Nat.{suc, ◌-◌}
use native.Mathlib.Omega.{arith}
use Rattle.reader.proofs.Backs.{back_start, back_room, back_step, back_end}
use borrow.Author.Rules.{rules}
use Rattle.reader.proofs.end.set_ends.Goals as goal

pub loop-j-init : goal.loop-j-init
loop-j-init c = back_start c.requires

pub step_back-b-requires : goal.step_back-b-requires
step_back-b-requires c = let q : c.loop-j.j ≡ suc (c.loop-j.j - 1) = omega arith in back_room c.requires (rw q at c.loop-j.invariant)

pub loop-j-preserved : goal.loop-j-preserved
loop-j-preserved c = let q : c.loop-j.j ≡ suc (c.loop-j.j - 1) = omega arith in back_step c.requires (rw q at c.loop-j.invariant) c.step_back-b.ensures.0 c.step_back-b.ensures.1

pub shape_of-work : goal.shape_of-work
shape_of-work c = c.loop-j.invariant.aside.len

pub returns : goal.returns
returns c = let z : c.loop-j.j ≡ 0 = search rules in
    back_end (rw z at c.loop-j.invariant)
