use Rattle.wit_group_walk.proofs.Outcomes.{one_outcome as law}
use Rattle.wit_group_walk.proofs.laws.one_outcome.Goals as goal

pub returns : goal.returns
returns c = law
