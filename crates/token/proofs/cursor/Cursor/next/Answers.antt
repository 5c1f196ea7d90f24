use mathlib.Core.Path.{sym, ap}
use native.Mathlib.Omega.{arith}
use Rattle.token.specs.Words.{next_of}
use Rattle.token.proofs.Words.{tokens_done}
use Rattle.token.proofs.Read.{next_is}
use borrow.Author.Rules.{rules}
use Rattle.token.proofs.cursor.Cursor.next.Goals as goal

pub returns-then-text-self : goal.returns-then-text-self
returns-then-text-self c = sym (ap (next_of _) (tokens_done _ _ (omega (arith, c.skip_white-self.ensures.0))))

pub returns : goal.returns
returns c = next_is _ _ _ _ c.skip_white-self.ensures.0 c.skip_white-self.ensures.1 (search rules) c.to_white-x.ensures
