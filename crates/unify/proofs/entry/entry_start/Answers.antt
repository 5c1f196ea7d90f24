use mathlib.Core.Path.{◌∙◌}
use Rattle.unify.proofs.Entries.{last_found}
use Rattle.unify.proofs.entry.entry_start.Goals as goal

pub returns : goal.returns
returns c =
    let e = c.last_typecode.ensures in
    c.unwrap_or.ensures ∙ last_found c.args.stack.now c.args.top _ c.requires e.none e.here e.last
