use Rattle.wit_groups.proofs.Group.{one_first as law}
use Rattle.wit_group_walk.proofs.laws.one_first_of_group.Goals as goal

pub returns : goal.returns
returns c = law
