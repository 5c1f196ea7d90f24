use Rattle.token.proofs.Counts.{tally_step, tally_end}
use borrow.Author.Rules.{rules}
use Rattle.token.proofs.count.tally_bytes.Goals as goal

pub loop-b-preserved : goal.loop-b-preserved
loop-b-preserved c =
    tally_step c.loop-b.invariant (search rules) c.class_of-c.ensures
    c.from-white.ensures c.from-tokens.ensures c.from-bads.ensures

pub returns : goal.returns
returns c = tally_end c.loop-b.invariant (search rules)
