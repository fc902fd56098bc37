use Rattle.wit_groups.proofs.Group.{decided as law}
use Rattle.wit_group_walk.proofs.laws.legal_group_or_first.Goals as goal

pub returns : goal.returns
returns c = law
