use Rattle.reader.proofs.Looks.{skip_closed, skip_open, skip_bad}
use Rattle.reader.proofs.comment.skip_comment.Goals as goal

pub returns-in-Closed : goal.returns-in-Closed
returns-in-Closed c = skip_closed c.args.c c.requires.0 c.requires.1 c.requires.2 c.in-Closed.ensures

pub returns-in-Bad : goal.returns-in-Bad
returns-in-Bad c = skip_bad c.args.c c.requires.0 c.requires.1 c.requires.2 c.in-Bad.ensures

pub returns-in-Never : goal.returns-in-Never
returns-in-Never c = skip_open c.args.c c.requires.0 c.requires.1 c.requires.2 c.in-Never.ensures
