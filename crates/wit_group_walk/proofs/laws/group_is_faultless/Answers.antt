use Rattle.wit_group_walk.proofs.Groups.{faultless as law}
use Rattle.wit_group_walk.proofs.laws.group_is_faultless.Goals as goal

pub returns : goal.returns
returns c = law
