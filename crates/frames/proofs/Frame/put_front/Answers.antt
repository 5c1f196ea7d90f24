use Rattle.frames.proofs.Fronts.{can_front, fronts}
use borrow.Author.Rules.{rules}
use Rattle.frames.proofs.Frame.put_front.Goals as goal

pub put_name-size_at-requires : goal.put_name-size_at-requires
put_name-size_at-requires c = (rw c.label_word-label.ensures (can_front c.requires.0).label.words, search rules)

pub returns : goal.returns
returns c =
    fronts c.requires.0 c.statement_word-kind.ensures.0 c.statement_word-offset.ensures.0 c.label_word-label.ensures
    c.put_u16-offset_at.ensures c.put_u32-label_at.ensures c.put_name-size_at.ensures c.put_u16-mandatory_at.ensures c.put_u16.ensures
