use Rattle.wit_groups.proofs.Names.{made_names as law}
use Rattle.wit_group_walk.proofs.laws.names_agree.Goals as goal

pub returns : goal.returns
returns c = law
