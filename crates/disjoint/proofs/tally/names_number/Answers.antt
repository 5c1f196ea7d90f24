use mathlib.Core.Path.{refl, ◌∙◌}
use Prim.Native.Nat.{◌+◌, ◌-◌}
use native.Mathlib.Omega.{arith}
use lib.Dec.{eqb}
use borrow.Author.Rules.{rules}
use borrow.Author.Tests.{tests}
use Rattle.std.proofs.lemmas.Iterator.{YieldsList-from_range}
use Rattle.std.proofs.lemmas.Iterator.Search.{any_from_yields_List}
use Rattle.disjoint.specs.Words.{number_at}
use Rattle.disjoint.proofs.Walks.{names_any}
use Rattle.disjoint.proofs.tally.names_number.Goals as goal

pub returns : goal.returns
returns c =
    let w = c.args.work.now in
    let n = c.args.n in
    let t = c.of-tokens.result in
    any_from_yields_List (λ i. eqb (number_at w n (t.first + i) - 1) c.args.u.0) _ _ _ c.any.ensures.ran
    (YieldsList-from_range 0 t.count t.count refl (omega arith))
    (λ x b q k. search (rules, tests))
    ∙ names_any w n c.args.row.0 c.args.u.0 c.of-tokens.ensures.first c.of-tokens.ensures.count
