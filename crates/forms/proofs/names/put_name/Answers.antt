use Rattle.forms.proofs.OneName.{name_put}
use Rattle.forms.proofs.names.put_name.Goals as goal

pub returns : goal.returns
returns c = name_put c.requires.0 c.name_part.ensures c.put_string.ensures
