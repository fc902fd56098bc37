use Rattle.wit_group_walk.proofs.ByPath.{one_by_path as law}
use Rattle.wit_group_walk.proofs.laws.one_path_order.Goals as goal

pub returns : goal.returns
returns c = law
