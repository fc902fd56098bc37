use Rattle.wit_groups.proofs.Group.{faultless as law}
use Rattle.wit_group_walk.proofs.laws.legal_group_is_faultless.Goals as goal

pub returns : goal.returns
returns c = law
