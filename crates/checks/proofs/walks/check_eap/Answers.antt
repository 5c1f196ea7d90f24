use Rattle.checks.proofs.walks.check_eap.Goals as goal

pub all_good-requires : goal.all_good-requires
all_good-requires c = (c.requires.0.room, c.requires.0.atoms, c.requires.1)

pub returns-then-all_good : goal.returns-then-all_good
returns-then-all_good c = c.all_good.ensures c.if-all_good.true _ _

pub walk_eap-requires : goal.walk_eap-requires
walk_eap-requires c = (rw c.requires.2 c.requires.0, rw c.requires.2 c.requires.1, c.requires.3)

pub returns : goal.returns
returns c = rw c.requires.2 at c.walk_eap.ensures
