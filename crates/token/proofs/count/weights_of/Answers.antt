use borrow.Author.Rules.{rules}
use Rattle.token.proofs.count.weights_of.Goals as goal

pub returns : goal.returns
returns c =
    let h = c.from_fn.ensures.items in
    record { len = h.long; at = λ b k. let called = (h.at b 0 k).2 in search rules }
