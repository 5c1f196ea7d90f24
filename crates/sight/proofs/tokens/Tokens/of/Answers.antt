use Rattle.area.proofs.Laws.{word_at}
use Rattle.sight.proofs.tokens.Tokens.of.Goals as goal

pub returns-clause-first : goal.returns-clause-first
returns-clause-first c = word_at c.args.work.now c.statement.ensures

pub returns-clause-count : goal.returns-clause-count
returns-clause-count c = word_at c.args.work.now c.statement-2.ensures
