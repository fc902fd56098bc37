use Rattle.wit_group_walk.proofs.Outputs.{one_output as law}
use Rattle.wit_group_walk.proofs.laws.one_output.Goals as goal

pub returns : goal.returns
returns c = law
