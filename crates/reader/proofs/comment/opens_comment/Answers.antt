use mathlib.Core.Path.{sym, ◌∙◌}
use borrow.Author.Tests.{le-leb}
use Rattle.paper.specs.Tokens.{key}
use Rattle.paper.proofs.Keys.{math_no_key}
use Rattle.token.specs.Words.{token_of}
use Rattle.reader.proofs.comment.opens_comment.Goals as goal

pub returns-then-x-ge3 : goal.returns-then-x-ge3
returns-then-x-ge3 c = sym (math_no_key 40 (token_of c.args.text.now c.args.x) (sym c.requires.math ∙ le-leb 3 c.args.x.least c.if-x-ge3.true))

pub returns : goal.returns
unfolding key
returns c = c.is_key.ensures
