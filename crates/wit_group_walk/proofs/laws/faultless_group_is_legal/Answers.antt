use Rattle.wit_groups.proofs.Group.{legal as law}
use Rattle.wit_group_walk.proofs.laws.faultless_group_is_legal.Goals as goal

pub returns : goal.returns
returns c = law
