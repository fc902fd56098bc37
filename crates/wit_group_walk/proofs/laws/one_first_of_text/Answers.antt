use Rattle.wit_group_walk.proofs.LaidSources.{one_of_text as law}
use Rattle.wit_group_walk.proofs.laws.one_first_of_text.Goals as goal

pub returns : goal.returns
returns c = law
