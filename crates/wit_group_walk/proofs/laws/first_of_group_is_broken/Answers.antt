use Rattle.wit_groups.proofs.Group.{broken as law}
use Rattle.wit_group_walk.proofs.laws.first_of_group_is_broken.Goals as goal

pub returns : goal.returns
returns c = law
