use Rattle.unify.proofs.Pushes.{entry_full, entry_then}
use Rattle.unify.proofs.expand.push_row.Goals as goal

pub returns-in_err-p : goal.returns-in_err-p
returns-in_err-p c = rw c.from_residual.ensures (entry_full c.args.typecode.0 c.args.tokens.now c.in_err-p.ensures)

pub returns : goal.returns
returns c = entry_then c.args.typecode.0 c.args.tokens.now _ c.in_ok-p.ensures c.put_tokens.ensures
