use Rattle.wit_group_walk.proofs.LaidSources.{one_had as law}
use Rattle.wit_group_walk.proofs.laws.one_first_of_sources.Goals as goal

pub returns : goal.returns
returns c = law
