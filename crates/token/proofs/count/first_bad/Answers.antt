use mathlib.Core.Path.{◌∙◌}
use Prim.Native.Nat.{ℕ}
use lib.Dec.{eqb}
use Rattle.std.proofs.Common.{tests}
use Rattle.std.proofs.lemmas.Iterator.{YieldsList-from_slice}
use Rattle.std.proofs.lemmas.Iterator.Search.{position_from_yields_List}
use Rattle.std.proofs.lemmas.Iterator.Adapters.{position_from-zero}
use Rattle.token.specs.Class.{class}
use Rattle.token.proofs.Counts.{bad_position}
use borrow.Author.Rules.{rules}
use Rattle.token.proofs.count.first_bad.Goals as goal

pub returns : goal.returns
returns c =
    let t = c.args.text.now in
    position_from_yields_List
    (λ (b : ℕ). eqb (class b) 0) _ _ _ c.position.ensures.ran (YieldsList-from_slice t cc) (λ x b q k. search (rules, tests))
    ∙ position_from-zero _ t ∙ bad_position t 0
