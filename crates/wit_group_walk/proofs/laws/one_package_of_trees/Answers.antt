use Rattle.wit_group_walk.proofs.Outputs.{one_of_trees as law}
use Rattle.wit_group_walk.proofs.laws.one_package_of_trees.Goals as goal

pub returns : goal.returns
returns c = law
