use mathlib.Core.Path.{ap, ◌∙◌}
use native.Mathlib.Omega.{arith}
use Prim.Native.Nat.{ℕ}
use lib.ListN.{replicate}
use Rattle.std.proofs.lemmas.List.Edits.{length-between}
use Rattle.area.proofs.Laws.{cleared_fill}
use Rattle.area.proofs.clear_part.Goals as goal

pub returns : goal.returns
returns c =
    let n = length-between c.args.work.now c.args.a c.args.e in
    cleared_fill c.args.work.now c.args.a c.args.e c.requires.0 c.requires.1 (c.fill.ensures.after (λ y p. p) ∙ ap (λ (k : ℕ). replicate k 0) (omega (arith, n)))
