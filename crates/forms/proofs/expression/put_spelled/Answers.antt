use Rattle.forms.proofs.Spelled.{expression_put}
use Rattle.forms.proofs.expression.put_spelled.Goals as goal

pub returns : goal.returns
returns c = (
  expression_put c.requires.0 c.math_word-typecode.ensures c.put_name-a.ensures c.put_fragments-r.ensures c.put_u32.ensures,
  c.put_fragments-r.ensures.pooled,
)
