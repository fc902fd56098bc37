use Rattle.wit_group_walk.proofs.Groups.{group as law}
use Rattle.wit_group_walk.proofs.laws.faultless_is_group.Goals as goal

pub returns : goal.returns
returns c = law
