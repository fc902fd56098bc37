use Rattle.wit_group_walk.proofs.Groups.{broken as law}
use Rattle.wit_group_walk.proofs.laws.first_of_sources_is_broken.Goals as goal

pub returns : goal.returns
returns c = law
