use mathlib.Core.Path.{sym, ◌∙◌}
use native.Mathlib.Omega.{arith}
use Rattle.paper.specs.Tokens.{key}
use Rattle.reader.proofs.Items.{event_room, open_held, close_none, close_held, plain_bad, plain_begun}
use borrow.Author.Rules.{rules}
use Rattle.reader.proofs.item.read_from.Goals as goal

pub open_group-requires : goal.open_group-requires
open_group-requires c = event_room c.requires.0 c.requires.1

pub returns-then-is_key : goal.returns-then-is_key
unfolding key
returns-then-is_key c = open_held c.requires.0 c.requires.1 (sym c.is_key.ensures ∙ c.if-is_key.true) c.open_group.ensures.0 c.open_group.ensures.1

pub returns-then-s-eq0 : goal.returns-then-s-eq0
unfolding key
returns-then-s-eq0 c = rw c.bad_token.ensures
    (close_none c.requires.0 c.requires.1 (sym c.is_key.ensures ∙ c.if-is_key.false) (sym c.is_key-2.ensures ∙ c.if-is_key-2.true) c.if-s-eq0.true)

pub close_group-requires : goal.close_group-requires
close_group-requires c = let w = c.requires.1.whole in
    (event_room c.requires.0 c.requires.1, search rules, omega (arith, w.some, w.within, c.requires.0.words.short))

pub returns-then-is_key-2 : goal.returns-then-is_key-2
unfolding key
returns-then-is_key-2 c = close_held c.requires.0 c.requires.1 (sym c.is_key.ensures ∙ c.if-is_key.false) (sym c.is_key-2.ensures ∙ c.if-is_key-2.true)
    (search rules) c.close_group.ensures.0 c.close_group.ensures.1

pub returns-in_default : goal.returns-in_default
unfolding key
returns-in_default c = rw c.bad_token-in_default.ensures
    (plain_bad c.requires.0 c.requires.1 (sym c.is_key.ensures ∙ c.if-is_key.false) (sym c.is_key-2.ensures ∙ c.if-is_key-2.false) (search rules)
    (sym c.in_default.is ∙ c.plain_code.ensures))

pub read_body-requires : goal.read_body-requires
unfolding key
read_body-requires c = plain_begun c.requires.0 c.requires.1 (sym c.is_key.ensures ∙ c.if-is_key.false) (sym c.is_key-2.ensures ∙ c.if-is_key-2.false)
    (sym c.in-Some.is ∙ c.plain_code.ensures)
