use Rattle.wit_group_walk.proofs.Outcomes.{one_json as law}
use Rattle.wit_group_walk.proofs.laws.one_json.Goals as goal

pub returns : goal.returns
returns c = law
