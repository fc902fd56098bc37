use Rattle.wit_group_walk.proofs.Groups.{decided as law}
use Rattle.wit_group_walk.proofs.laws.faultless_or_first.Goals as goal

pub returns : goal.returns
returns c = law
