use Rattle.unify.proofs.Matches.{word_end, word_differs, word_agrees}
use borrow.Author.Rules.{rules}
use Rattle.unify.proofs.matching.match_word.Goals as goal

pub returns-in_err-get : goal.returns-in_err-get
returns-in_err-get c = rw c.from_residual.ensures (word_end _ _ _ (search rules))

pub returns-then-branch : goal.returns-then-branch
returns-then-branch c = word_differs _ _ _ (search rules) (search rules)

pub returns : goal.returns
returns c = word_agrees _ _ _ (search rules) (search rules)
